use Rattle.std.proofs.Common.{◌≡◌, map, ◌++◌}
use Rattle.grok.specs.steps.FullMeasures.{levels_and_name}
use Rattle.grok.proofs.measure.full_measure.FullMeasure.read_names.Given as goal

abbrev pub invariant-names : goal.invariant-names
invariant-names l = l.names.items ++ map levels_and_name l.name-iterator ≡ map levels_and_name l.self.measurer.cache.by_name.entries
