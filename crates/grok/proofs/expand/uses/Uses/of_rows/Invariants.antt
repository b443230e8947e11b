use Rattle.std.proofs.Common.{ℕ, List, take}
use Rattle.grok.specs.steps.Rows.{flat}
use Rattle.grok.specs.steps.CountedUses.{AreUsesOf, AreCountsOf}
use Rattle.grok.proofs.expand.uses.Uses.of_rows.Given as goal

abbrev pub invariant-rows : goal.invariant-rows
invariant-rows l = (done : List (List (List ℕ))) → AreCountsOf l.base done l.counts → AreUsesOf l.base (flat done (take l.row-index l.rows)) l.uses
