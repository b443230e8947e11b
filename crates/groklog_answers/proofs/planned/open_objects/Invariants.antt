use Rattle.std.proofs.Common.{◌≡◌, ◌++◌, drop}
use Rattle.groklog_answers.specs.PlanViews.{names_of}
use Rattle.groklog_answers.specs.steps.OpenObjects.{opening}
use Rattle.groklog_answers.proofs.planned.open_objects.Given as goal

abbrev pub invariant-names : goal.invariant-names
invariant-names l = record {
  tokens : l.writer.tokens ++ opening (names_of (drop l.name-index l.names)) ≡ l.fn.writer.tokens ++ opening (names_of l.fn.names);
  before : l.writer.before ≡ l.fn.writer.before;
}
