use Rattle.std.proofs.Common.{[], ◌∷◌, ◌++◌, flat_map, ap, ◌∙◌}
use Rattle.std.proofs.lemmas.Result.{on_ok_weaker}
use Rattle.json.specs.Token.{Token}
use Rattle.json.specs.Tree.{json_tokens}
use Rattle.groklog_answers.specs.PlannedFields.{key_values}
use Rattle.groklog_answers.specs.PlanViews.{names_of}
use Rattle.groklog_answers.specs.Views.{found_layout, found_text}
use Rattle.groklog_answers.proofs.PlannedTokens.{array_regrouped, array_tokens}
use Rattle.groklog_answers.proofs.planned.write_one_or_array.Goals as goal

pub returns-clause-value : goal.returns-clause-value
returns-clause-value c =
    let values = flat_map (key_values (found_layout c.args.found.now) (found_text c.args.found.now)) (names_of c.args.keys.now) in
    on_ok_weaker c.end_array.result
    (λ e value is_count is.
    e
    ∙ ap (λ ts. ts ++ Token.end_array ∷ [])
    (c.in_ok-write_values.ensures.values ∙ ap (λ ts. ts ++ flat_map json_tokens values) c.in_ok-begin_array.ensures.ok)
    ∙ array_regrouped c.args.writer.now.tokens Token.begin_array (flat_map json_tokens values) Token.end_array
    ∙ ap (λ ts. c.args.writer.now.tokens ++ ts) (array_tokens values value (λ one. c.if-count-eq1.false (is_count ∙ one)) is))
    c.end_array.ensures.ok
