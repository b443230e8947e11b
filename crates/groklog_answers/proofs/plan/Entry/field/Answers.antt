use Rattle.std.proofs.Common.{ℕ, List, sym, ap, ◌∙◌}
use Rattle.std.specs.Borrow.{Bor}
use Rattle.groklog_answers.specs.Plans.{FieldText}
use Rattle.groklog_answers.specs.PlanViews.{names_of}
use Rattle.groklog_answers.proofs.PlansAreMade.{field_by_last_name}
use Rattle.groklog_answers.proofs.plan.Entry.field.Goals as goal

pub returns-in_ok-parents-in-Some : goal.returns-in_ok-parents-in-Some
returns-in_ok-parents-in-Some c =
    let keys = names_of c.args.keys.items in
    let made : List (Bor (List ℕ)) → FieldText = λ parents. record { parents = names_of parents; name = c.in-Some.name.now.now; keys = keys } in
    ap made c.in_ok-parents-in-Some.ensures.items
    ∙ field_by_last_name (λ (n : Bor (List ℕ)). n.now) c.args.self.now.base c.args.self.now.names.items c.in-Some.parents.now c.in-Some.name.now keys
    (sym c.as_slice.ensures.value ∙ c.in-Some.ensures.cases.0)
