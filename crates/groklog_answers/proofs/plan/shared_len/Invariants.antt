use Rattle.std.proofs.Common.{◌≡◌, ◌+◌, ◌≤◌, drop, length}
use Rattle.groklog_answers.specs.PlanViews.{names_of}
use Rattle.groklog_answers.specs.steps.OpenObjects.{shared_len}
use Rattle.groklog_answers.proofs.plan.shared_len.Given as goal

abbrev pub invariant-names : goal.invariant-names
invariant-names l = record {
  value : l.index + shared_len (names_of (drop l.index l.names)) (names_of (drop l.index l.others))
      ≡ shared_len (names_of l.fn.names) (names_of l.fn.others);
  within_others : l.index ≤ length l.others;
}
