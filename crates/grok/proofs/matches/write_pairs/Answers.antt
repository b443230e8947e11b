use Rattle.std.proofs.Common.{Ok, refl, rules}
use Rattle.grok.specs.Debugs.{debug_pair}
use Rattle.grok.specs.Maps.{pair_texts}
use Rattle.grok.proofs.Texts.DebugOfEntries.{begins, goes_on, ends}
use Rattle.grok.proofs.matches.write_pairs.Goals as goal

pub pairs-init : goal.pairs-init
pairs-init g c = (
  search rules,
  λ plain.
      rw c.into_iter-name-iterator.ensures.into_iter_gives
      (begins g.W.Write.write_str_gives debug_pair c.args.f.now c.write_str.new.self c.args.pairs (c.in_ok-write_str.ensures.writes plain refl)),
)

pub pairs-preserved : goal.pairs-preserved
pairs-preserved g c = (
  search rules,
  λ plain.
      goes_on g.W.Write.write_str_gives debug_pair c.args.f.now c.pairs.f c.write_entry.new.f c.args.pairs c.pairs.lead.now (pair_texts (c.in-Some.name, c.in-Some.text)) c.next.new.self
      (Ok c.in_ok-write_entry.field-0) (rw c.in-Some.ensures.steps at (c.pairs.invariant.1 plain)) c.in_ok-write_entry.ensures refl,
)

pub returns : goal.returns
returns g c =
    ends g.W.Write.write_str_gives debug_pair c.args.f.now c.pairs.f c.write_str-2.new.self c.args.pairs c.pairs.lead.now c.write_str-2.result
    (λ plain. rw c.in-None.ensures.steps.0 at (c.pairs.invariant.1 plain)) c.write_str-2.ensures.writes
