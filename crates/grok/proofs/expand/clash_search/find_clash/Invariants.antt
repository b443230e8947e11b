use Rattle.std.proofs.Common.{ℕ, List, length}
use Rattle.grok.specs.steps.Rows.{flat, AreBelow, AreKeysOfParts}
use Rattle.grok.specs.steps.CountedUses.{IsCutOrSame}
use Rattle.grok.proofs.Keys.BasesOfRows.{LeavesFree}
use Rattle.grok.proofs.expand.clash_search.find_clash.Given as goal

-- the base keys before the cut are free of the clashes of all bases so far
abbrev pub invariant-bases : goal.invariant-bases
invariant-bases l = record {
  below : AreBelow (length l.parts) l.top.items;
  cut : (done : List (List (List ℕ))) → AreKeysOfParts l.parts done → IsCutOrSame (flat done l.fn.top.items) (flat done l.top.items) l.found;
  free : (done : List (List (List ℕ))) → AreKeysOfParts l.parts done → LeavesFree (flat done l.top.items) l.base-iterator l.initial.base-iterator;
}
