use Rattle.std.proofs.Common.{Ok, refl, rules}
use Rattle.grok.specs.Debugs.{debug_item}
use Rattle.grok.proofs.Texts.DebugOfEntries.{begins, goes_on, ends}
use Rattle.grok.proofs.debug_map.write_map.Goals as goal

pub entries-init : goal.entries-init
entries-init g c = (
  search rules,
  λ plain.
      rw c.into_iter-key-iterator.ensures.into_iter_gives.0
      (begins g.W.Write.write_str_gives (debug_item g.V.Debug.debug_output) c.args.f.now c.write_str.new.self c.args.map.now.entries (c.in_ok-write_str.ensures.writes plain refl)),
)

pub entries-preserved : goal.entries-preserved
entries-preserved g c = (
  search rules,
  λ plain.
      goes_on g.W.Write.write_str_gives (debug_item g.V.Debug.debug_output) c.args.f.now c.entries.f c.write_entry.new.f c.args.map.now.entries c.entries.lead.now _ c.next.new.self
      (Ok c.in_ok-write_entry.field-0) (rw c.in-Some.ensures.steps at (c.entries.invariant.1 plain)) (rw c.as_str.ensures.value at c.in_ok-write_entry.ensures) refl,
)

pub returns-clause-writes : goal.returns-clause-writes
returns-clause-writes g c =
    ends g.W.Write.write_str_gives (debug_item g.V.Debug.debug_output) c.args.f.now c.entries.f c.write_str-2.new.self c.args.map.now.entries c.entries.lead.now c.write_str-2.result
    (λ plain. rw c.in-None.ensures.steps.0 at (c.entries.invariant.1 plain)) c.write_str-2.ensures.writes
