use denote.Text.{Utf8}
use denote.Shadow.{shadow}
use Rattle.std.specs.Fmt.{IsPlainFormatter}
use Rattle.grok.specs.Debugs.{debug_pair}
use Rattle.grok.proofs.Texts.DebugOfEntries.{IsWriting}
use Rattle.grok.proofs.matches.write_pairs.Given as goal

abbrev pub invariant-pairs : goal.invariant-pairs
invariant-pairs g l = shadow (Utf8 l.lead)
    × (IsPlainFormatter l.fn.f → IsWriting g.W.Write.write_str_gives debug_pair l.fn.f l.fn.pairs l.f l.lead l.name-iterator)
