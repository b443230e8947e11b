use Rattle.std.proofs.Common.{◌≡◌, ◌++◌, drop}
use Rattle.grok.specs.FaultLocations.{path_view}
use Rattle.grok.specs.steps.Descents.{path_of}
use Rattle.grok.proofs.descend.place_of.Given as goal

abbrev pub invariant-texts : goal.invariant-texts
invariant-texts l = path_view l.path.items ++ path_of (drop l.opened-index l.around) ≡ path_of l.around
