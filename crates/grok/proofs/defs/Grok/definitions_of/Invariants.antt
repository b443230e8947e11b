use Rattle.std.proofs.Common.{◌≡◌, ◌++◌, length, map}
use Rattle.std.specs.Prelude.{filter_map}
use Rattle.std.specs.FinMap as finite
use Rattle.grok.specs.Maps.{pair_texts}
use Rattle.grok.specs.Tree.{items_of, definition_of}
use Rattle.grok.proofs.defs.Grok.definitions_of.Given as goal

abbrev pub invariant-items : goal.invariant-items
invariant-items l = map pair_texts l.found.items ++ filter_map definition_of l.items ≡ filter_map definition_of (items_of (finite.get l.self) l.text)

abbrev pub decreases-items : goal.decreases-items
decreases-items l = length l.items
