use Rattle.std.proofs.Common.{ℕ, List, [], ◌∷◌, length}
use Rattle.grok.specs.steps.Rows.{flat, AreBelow, AreKeysOfParts}
use Rattle.grok.specs.steps.CountedUses.{IsFreeAt}
use Rattle.grok.proofs.Keys.ClashIsCut.{IsCutting, row_height}
use Rattle.grok.proofs.expand.clash_search.cut.Given as goal

abbrev pub invariant-rows : goal.invariant-rows
invariant-rows l = record {
  top : AreBelow (length l.parts) l.top.items;
  row : AreBelow (length l.parts) (l.row ∷ []);
  free : IsFreeAt l.so_far.times l.so_far.least;
  cutting : (done : List (List (List ℕ))) → AreKeysOfParts l.parts done → IsCutting done l.base (flat done l.fn.top.items) l.top.items l.row l.so_far;
}

-- each row is in a part before that of the last one
abbrev pub decreases-rows : goal.decreases-rows
decreases-rows l = row_height l.row
