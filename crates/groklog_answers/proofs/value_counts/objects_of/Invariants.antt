-- The objects of the values so far were written.
use Rattle.std.proofs.Common.{◌≡◌, take, map, flat_map}
use Rattle.groklog_answers.specs.ValueCounts.{counted_pair, counted_object}
use Rattle.groklog_answers.proofs.value_counts.objects_of.Given as goal

abbrev pub invariant-values : goal.invariant-values
invariant-values l = l.text.items ≡ flat_map counted_object (map counted_pair (take l.counted-index l.all))
