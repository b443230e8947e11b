use Rattle.std.proofs.Common.{◌≡◌, ◌++◌, map, take}
use Rattle.groklog_answers.proofs.record.add_names.Given as goal

abbrev pub invariant-names : goal.invariant-names
invariant-names l = map (λ value. value.now) l.values.items ≡ map (λ value. value.now) l.fn.values.items
    ++ map (λ name. name.now) (take l.name-index l.names)
