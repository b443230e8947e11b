use Rattle.std.proofs.Common.{◌++◌, option_map, map, sym, ap, ◌∙◌}
use Rattle.std.specs.Borrow.{Bor}
use Rattle.std.proofs.lemmas.List.{drop_all}
use Rattle.std.proofs.lemmas.Result.{on_ok_weaker}
use Rattle.groklog_answers.specs.PlannedFields.{planned_members}
use Rattle.groklog_answers.specs.PlanViews.{field_text}
use Rattle.groklog_answers.specs.Views.{found_layout, found_text}
use Rattle.groklog_answers.specs.declared.plan.Field.{Field}
use Rattle.groklog_answers.specs.steps.OpenObjects.{closing, opened_after, left_tokens}
use Rattle.groklog_answers.proofs.PlannedTokens.{all_are_written}
use Rattle.groklog_answers.proofs.planned.write_planned.Goals as goal

pub returns-clause-members : goal.returns-clause-members
returns-clause-members c =
    let layout = found_layout c.args.found.now in
    let found = found_text c.args.found.now in
    let opened = opened_after (option_map (λ (field : Bor Field). field_text field.now) c.fields.last) in
    on_ok_weaker c.close_objects.result
    (λ e. all_are_written c.args.writer.now.tokens c.fields.writer.tokens c.close_objects.new.writer.tokens opened
    (planned_members layout found (map field_text c.args.fields.now))
    (ap (λ fields. c.fields.writer.tokens ++ left_tokens opened (planned_members layout found (map field_text fields)))
    (sym (drop_all c.fields.field-index c.args.fields.now c.fields-test.false))
    ∙ c.fields.invariant.members)
    (e ∙ ap (λ names. c.fields.writer.tokens ++ closing names) c.opened_after.ensures))
    c.close_objects.ensures.tokens
