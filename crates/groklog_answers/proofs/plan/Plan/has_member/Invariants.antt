use Rattle.std.proofs.Common.{◌≡◌, map, drop}
use Rattle.std.specs.List.{list_any}
use Rattle.std.specs.Str.{bytes_eq}
use Rattle.groklog_answers.specs.Plans.{first_of}
use Rattle.groklog_answers.specs.PlanViews.{field_text, plan_text}
use Rattle.groklog_answers.proofs.plan.Plan.has_member.Given as goal

abbrev pub invariant-fields : goal.invariant-fields
invariant-fields l = list_any (λ field. bytes_eq (first_of field) l.name) (map field_text (drop l.field-index l.field-items))
    ≡ list_any (λ field. bytes_eq (first_of field) l.fn.name) (plan_text l.fn.self)
