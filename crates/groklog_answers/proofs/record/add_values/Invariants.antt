use Rattle.std.proofs.Common.{◌≡◌, ◌++◌, map, take}
use Rattle.groklog_answers.specs.Records.{value_in, value_or_empty}
use Rattle.groklog_answers.specs.Views.{answered_text}
use Rattle.groklog_answers.proofs.record.add_values.Given as goal

abbrev pub invariant-names : goal.invariant-names
invariant-names l = map (λ value. value.now) l.values.items ≡ map (λ value. value.now) l.fn.values.items
    ++ map (value_or_empty (value_in (answered_text l.line).found)) (map (λ name. name.now) (take l.name-index l.names))
