-- The values of the pairs so far are in the list.
use Rattle.std.proofs.Common.{◌≡◌, map, take}
use Rattle.groklog_answers.specs.ValueLists.{key_value}
use Rattle.groklog_answers.proofs.value_lists.values_of.Given as goal

abbrev pub invariant-pairs : goal.invariant-pairs
invariant-pairs l = map (λ value. value.now) l.values.items ≡ map (λ pair. pair.1) (map key_value (take l.pair-index l.pairs))
