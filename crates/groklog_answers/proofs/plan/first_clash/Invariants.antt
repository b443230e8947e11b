use Rattle.std.proofs.Common.{map, drop}
use Rattle.groklog_answers.specs.Plans.{AreInOrder}
use Rattle.groklog_answers.specs.PlanViews.{entry_text}
use Rattle.groklog_answers.proofs.plan.first_clash.Given as goal

abbrev pub invariant-entries : goal.invariant-entries
invariant-entries l = AreInOrder (map entry_text (drop l.index l.entries)) → AreInOrder (map entry_text l.fn.entries)
