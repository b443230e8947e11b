use Rattle.std.proofs.Common.{◌≡◌, ◌++◌, map, drop}
use Rattle.groklog_answers.specs.Plans.{entries_from}
use Rattle.groklog_answers.specs.PlanViews.{shared_text, entry_text}
use Rattle.groklog_answers.proofs.plan.entries_of.Given as goal

abbrev pub invariant-keys : goal.invariant-keys
invariant-keys l = map entry_text l.entries.items ++ entries_from l.is_nested l.index (map shared_text (drop l.index l.keys))
    ≡ entries_from l.fn.is_nested 0 (map shared_text l.fn.keys)
