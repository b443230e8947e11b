use Rattle.std.proofs.Common.{[], ◌∷◌, ◌++◌, option_map, flat_map, length, sym, ap, ◌∙◌}
use Rattle.std.specs.Borrow.{Bor}
use Rattle.json.specs.Token.{Token}
use Rattle.json.specs.Tree.{json_tokens}
use Rattle.groklog_answers.specs.PlannedFields.{key_values, one_or_array}
use Rattle.groklog_answers.specs.PlanViews.{names_of, field_text}
use Rattle.groklog_answers.specs.Views.{found_layout, found_text}
use Rattle.groklog_answers.specs.declared.plan.Field.{Field}
use Rattle.groklog_answers.specs.steps.OpenObjects.{moving, opened_after}
use Rattle.groklog_answers.proofs.PlannedTokens.{values_are_leaves, field_is_written}
use Rattle.groklog_answers.proofs.planned.write_field.Goals as goal

pub returns-clause-written : goal.returns-clause-written
returns-clause-written c =
    let layout = found_layout c.args.found.now in
    let found = found_text c.args.found.now in
    let keys = c.args.field.now.keys.items in
    let start = c.args.writer.now.tokens in
    let opened = opened_after (option_map (λ (field : Bor Field). field_text field.now) c.args.last) in
    let counted = c.count-count.ensures ∙ ap (λ ks. length (flat_map (key_values layout found) (names_of ks))) c.deref.ensures.value in
    λ _ more.
    field_is_written start c.write_one_or_array.new.writer.tokens opened (field_text c.args.field.now)
    (flat_map (key_values layout found) (names_of keys)) more
    (values_are_leaves layout found (names_of keys))
    (λ none. c.if-count-eq0.false (counted ∙ none))
    (λ value is.
    c.in_ok-write_one_or_array.ensures.value value
    (counted ∙ ap (λ ks. length (flat_map (key_values layout found) (names_of ks))) (sym c.deref-3.ensures.value))
    (ap (λ ks. one_or_array (flat_map (key_values layout found) (names_of ks))) c.deref-3.ensures.value ∙ is)
    ∙ ap (λ ts. ts ++ json_tokens value)
    (c.in_ok-key.ensures.ok
    ∙ ap (λ ts. ts ++ Token.key c.args.field.now.name.now ∷ [])
    (c.in_ok-move_to.ensures.tokens
    ∙ ap (λ names. start ++ moving names (names_of c.deref-2.result.now)) c.opened_after.ensures
    ∙ ap (λ names. start ++ moving opened (names_of names)) c.deref-2.ensures.value)))
