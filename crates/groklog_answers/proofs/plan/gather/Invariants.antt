use Rattle.std.proofs.Common.{◌≡◌, ◌++◌, [], map, drop}
use Rattle.groklog_answers.specs.Plans.{gathered}
use Rattle.groklog_answers.specs.PlanViews.{names_of, entry_text, field_text}
use Rattle.groklog_answers.proofs.plan.gather.Given as goal

abbrev pub invariant-entries : goal.invariant-entries
invariant-entries l = map field_text l.fields.items ++ gathered (names_of l.keys.items) (map entry_text (drop l.index l.entries))
    ≡ gathered [] (map entry_text l.fn.entries)
