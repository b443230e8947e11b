use Rattle.std.proofs.Common.{ℕ, List, [], ◌∷◌, ◌++◌, ◌+◌, ◌<◌, length, drop, sym, ap, ◌∙◌, append_assoc, arith}
use Rattle.std.specs.Borrow.{Bor}
use Rattle.json.specs.Token.{Token}
use Rattle.groklog_answers.specs.PlanViews.{names_of}
use Rattle.groklog_answers.specs.steps.OpenObjects.{closing}
use Rattle.groklog_answers.proofs.PlannedTokens.{closing_more}
use Rattle.groklog_answers.proofs.planned.close_objects.Goals as goal

pub names-preserved : goal.names-preserved
names-preserved c =
    let inside : c.names.index < length c.args.names.now = omega arith in
    let rest = closing (names_of (drop (c.names.index + 1) c.args.names.now)) in
    record {
      tokens = ap (λ ts. ts ++ rest) c.in_ok-end_object.ensures.ok
          ∙ append_assoc c.names.writer.tokens (Token.end_object ∷ []) rest
          ∙ ap (λ ts. c.names.writer.tokens ++ ts) (sym (closing_more (λ (n : Bor (List ℕ)). n.now) c.args.names.now c.names.index inside))
          ∙ c.names.invariant.tokens;
      before = c.in_ok-end_object.ensures.room.0 ∙ c.names.invariant.before;
    }
