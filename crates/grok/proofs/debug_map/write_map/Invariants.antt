use denote.Text.{Utf8}
use denote.Shadow.{shadow}
use Rattle.std.specs.Fmt.{IsPlainFormatter}
use Rattle.grok.specs.Debugs.{debug_item}
use Rattle.grok.proofs.Texts.DebugOfEntries.{IsWriting}
use Rattle.grok.proofs.debug_map.write_map.Given as goal

abbrev pub invariant-entries : goal.invariant-entries
invariant-entries g l = shadow (Utf8 l.lead)
    × (IsPlainFormatter l.fn.f → IsWriting g.W.Write.write_str_gives (debug_item g.V.Debug.debug_output) l.fn.f l.map.entries l.f l.lead l.key-iterator)
