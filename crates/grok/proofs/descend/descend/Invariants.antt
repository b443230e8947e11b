use Rattle.std.proofs.Common.{◌≡◌, length}
use Rattle.std.specs.FinMap as finite
use Rattle.grok.proofs.Trees.DescentFindsPlace.{IsDescending, left_of}
use Rattle.grok.specs.steps.PlacedItems.{left_in}
use Rattle.grok.specs.steps.Searches.{Passes}
use Rattle.grok.proofs.descend.descend.Given as goal

abbrev pub invariant-items : goal.invariant-items
invariant-items g l = record {
  library : g.S.Search.definitions l.search ≡ g.S.Search.definitions l.fn.search;
  descending : IsDescending (Passes g.S.Search.IsReady g.S.Search.HasPassed) (finite.get l.grok) l.pattern l.fn.search l.around.items l.inner l.search;
}

abbrev pub decreases-items : goal.decreases-items
decreases-items g l = length (left_of (finite.get l.grok) l.around.items (left_in l.inner))
