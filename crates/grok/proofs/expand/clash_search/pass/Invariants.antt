use Rattle.std.proofs.Common.{ℕ, List, ◌++◌, take}
use Rattle.grok.specs.steps.Rows.{flat}
use Rattle.grok.specs.steps.CountedUses.{IsFreeAt, AreUsesOf, AreCountsOf}
use Rattle.grok.proofs.expand.clash_search.pass.Given as goal

abbrev pub invariant-rows : goal.invariant-rows
invariant-rows l = record {
  free : IsFreeAt l.fn.so_far.times l.fn.so_far.least → IsFreeAt l.so_far.times l.so_far.least;
  passed : (done : List (List (List ℕ))) → AreCountsOf l.base done l.counts → (before : List (List ℕ)) → AreUsesOf l.base before l.fn.so_far
      → AreUsesOf l.base (before ++ flat done (take l.index l.rows)) l.so_far;
}
