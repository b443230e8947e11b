use Rattle.std.proofs.Common.{◌≡◌, ℕ, suc, List, [], ◌∷◌, ◌++◌, true, ◌==◌, Some, option_map, ◌-◌, length, vec_len, sym, ap, ◌∙◌, arith, rules}
use Rattle.std.specs.Borrow.{Bor}
use Rattle.std.proofs.lemmas.Bool.{eqb-true}
use Rattle.std.proofs.lemmas.List.{nil_from_length, map-append}
use Rattle.groklog_answers.specs.Plans.{names_within, most_names}
use Rattle.groklog_answers.specs.PlanViews.{names_of}
use Rattle.groklog_answers.proofs.PlansAreMade.{names_end, names_last, names_more, no_names_left}
use Rattle.groklog_answers.proofs.plan.names_in.Goals as goal

pub returns-in_default : goal.returns-in_default
returns-in_default c =
    names_end (most_names - vec_len c.names.names) c.names.rest.now (names_of c.names.names.items) (omega arith) c.in_default.ensures
    ∙ c.names.invariant.1

pub returns-then-is_empty : goal.returns-then-is_empty
returns-then-is_empty c =
    let pushed = ap names_of c.in_ok-push.ensures.items ∙ map-append (λ (n : Bor (List ℕ)). n.now) c.names.names.items (c.in-Some.name ∷ []) in
    let nothing = nil_from_length c.in-Some.more.now (eqb-true (length c.in-Some.more.now) 0 (sym c.is_empty.ensures ∙ c.if-is_empty.true)) in
    ap Some pushed
    ∙ names_last (most_names - vec_len c.names.names) c.names.rest.now (names_of c.names.names.items) c.in-Some.name.now (omega arith)
    (ap (λ more. Some (c.in-Some.name.now, more)) (sym nothing) ∙ c.in-Some.ensures)
    ∙ c.names.invariant.1

pub names-preserved : goal.names-preserved
names-preserved c =
    let pushed = ap names_of c.in_ok-push.ensures.items ∙ map-append (λ (n : Bor (List ℕ)). n.now) c.names.names.items (c.in-Some.name ∷ []) in
    let left : most_names - vec_len c.names.names ≡ suc (most_names - vec_len c.push.new.self) = omega (arith, c.in_ok-push.ensures.len) in (
      search rules,
      ap (λ names. option_map (λ more. names ++ more) (names_within (most_names - vec_len c.push.new.self) c.in-Some.more.now)) pushed
          ∙ names_more (most_names - vec_len c.names.names) (most_names - vec_len c.push.new.self) c.names.rest.now (names_of c.names.names.items)
          c.in-Some.name.now c.in-Some.more.now left
          (λ none. let is : (length c.in-Some.more.now == 0) ≡ true = ap (λ n. n == 0) none in cc (is, c.is_empty.ensures, c.if-is_empty.false))
          c.in-Some.ensures
          ∙ c.names.invariant.1,
    )

pub returns : goal.returns
returns c =
    let none_left : most_names - vec_len c.names.names ≡ 0 = omega arith in
    no_names_left c.names.rest.now (names_of c.names.names.items)
    ∙ ap (λ n. option_map (λ more. names_of c.names.names.items ++ more) (names_within n c.names.rest.now)) (sym none_left)
    ∙ c.names.invariant.1
