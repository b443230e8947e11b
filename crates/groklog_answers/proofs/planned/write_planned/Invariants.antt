use Rattle.std.proofs.Common.{◌≡◌, ◌++◌, option_map, map, drop}
use Rattle.json.specs.Tree.{members_tokens}
use Rattle.groklog_answers.specs.PlannedFields.{planned_members}
use Rattle.groklog_answers.specs.PlanViews.{field_text}
use Rattle.groklog_answers.specs.Views.{found_layout, found_text}
use Rattle.groklog_answers.specs.steps.OpenObjects.{opened_after, left_tokens}
use Rattle.groklog_answers.proofs.planned.write_planned.Given as goal

abbrev pub invariant-fields : goal.invariant-fields
invariant-fields l = record {
  members : l.writer.tokens ++ left_tokens (opened_after (option_map (λ field. field_text field.now) l.last))
      (planned_members (found_layout l.found) (found_text l.found) (map field_text (drop l.field-index l.fields)))
      ≡ l.fn.writer.tokens ++ members_tokens (planned_members (found_layout l.fn.found) (found_text l.fn.found) (map field_text l.fn.fields));
  before : l.writer.before ≡ l.fn.writer.before;
}
