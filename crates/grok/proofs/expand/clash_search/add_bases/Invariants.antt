use Rattle.std.proofs.Common.{◌≡◌, ℕ, true, List, [], take}
use Rattle.grok.specs.steps.Rows.{flat}
use Rattle.grok.specs.steps.CountedUses.{has_base, HasBasesOf}
use Rattle.grok.proofs.expand.clash_search.add_bases.Given as goal

abbrev pub invariant-rows : goal.invariant-rows
invariant-rows l = record {
  kept : (base : List ℕ) → has_base l.fn.bases base ≡ true → has_base l.bases base ≡ true;
  added : HasBasesOf (flat [] (take l.row-index l.rows)) l.bases;
}
