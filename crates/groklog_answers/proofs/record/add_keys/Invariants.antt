use Rattle.std.proofs.Common.{◌≡◌, ◌++◌, map, take}
use Rattle.groklog_answers.specs.Layouts.{added_pair}
use Rattle.groklog_answers.proofs.record.add_keys.Given as goal

abbrev pub invariant-additions : goal.invariant-additions
invariant-additions l = map (λ value. value.now) l.values.items ≡ map (λ value. value.now) l.fn.values.items
    ++ map (λ added. added.1) (map added_pair (take l.added-index l.additions))
