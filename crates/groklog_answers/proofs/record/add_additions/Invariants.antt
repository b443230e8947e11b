use Rattle.std.proofs.Common.{◌≡◌, ◌++◌, map, take}
use Rattle.groklog_answers.specs.Layouts.{added_pair}
use Rattle.groklog_answers.specs.Records.{added_value}
use Rattle.groklog_answers.specs.Views.{answered_text}
use Rattle.groklog_answers.proofs.record.add_additions.Given as goal

abbrev pub invariant-additions : goal.invariant-additions
invariant-additions l = map (λ value. value.now) l.values.items ≡ map (λ value. value.now) l.fn.values.items
    ++ map (added_value (answered_text l.line)) (map added_pair (take l.added-index l.additions))
