use Rattle.std.proofs.Common.{ℕ, List, ◌++◌, ap, ◌∙◌}
use Rattle.std.specs.Borrow.{Bor}
use Rattle.std.proofs.lemmas.Result.{on_ok_weaker}
use Rattle.groklog_answers.specs.PlanViews.{names_of}
use Rattle.groklog_answers.specs.steps.OpenObjects.{closing, opening}
use Rattle.groklog_answers.proofs.PlannedTokens.{moved_in_parts}
use Rattle.groklog_answers.proofs.planned.move_to.Goals as goal

pub returns-clause-tokens : goal.returns-clause-tokens
returns-clause-tokens c =
    on_ok_weaker c.open_objects.result
    (λ e. moved_in_parts (λ (n : Bor (List ℕ)). n.now) c.args.opened.now c.args.parents.now c.shared_len-shared.result
    c.args.writer.now.tokens c.close_objects.new.writer.tokens c.open_objects.new.writer.tokens c.shared_len-shared.ensures.value
    (c.in_ok-close_objects.ensures.tokens ∙ ap (λ names. c.args.writer.now.tokens ++ closing (names_of names)) c.split_at.ensures.back)
    (e ∙ ap (λ names. c.close_objects.new.writer.tokens ++ opening (names_of names)) c.split_at-2.ensures.back))
    c.open_objects.ensures.tokens
