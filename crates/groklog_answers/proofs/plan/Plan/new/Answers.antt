use Rattle.std.proofs.Common.{List, [], map, subst, ap, ◌∙◌}
use Rattle.std.proofs.lemmas.List.Sorted.{IsPermutation-map}
use Rattle.groklog_answers.specs.Plans.{AreInOrder, gathered}
use Rattle.groklog_answers.specs.PlanViews.{shared_text, entry_text, field_text}
use Rattle.groklog_answers.specs.declared.plan.Entry.{Entry}
use Rattle.groklog_answers.proofs.PlansAreMade.{plan_is_made, plan_is_shallow}
use Rattle.groklog_answers.proofs.plan.Plan.new.Goals as goal

pub returns-clause-plan : goal.returns-clause-plan
returns-clause-plan c =
    plan_is_made c.args.is_nested (map shared_text c.args.keys.now) (map entry_text c.in_ok-entries.entries.items) (map entry_text c.sort_by.new.self.items)
    (map field_text c.in_ok-fields.fields.items) c.in_ok-entries.ensures
    (IsPermutation-map entry_text c.in_ok-entries.entries.items c.sort_by.new.self.items c.in_ok-sort_by.ensures.permutation)
    (subst (λ (entries : List Entry). AreInOrder (map entry_text entries)) c.deref.ensures.value c.in_default.ensures)
    (c.in_ok-fields.ensures ∙ ap (λ entries. gathered [] (map entry_text entries)) c.deref-2.ensures.value)

pub returns-clause-shallow : goal.returns-clause-shallow
returns-clause-shallow c =
    plan_is_shallow c.args.is_nested (map shared_text c.args.keys.now) (map entry_text c.in_ok-entries.entries.items) (map entry_text c.sort_by.new.self.items)
    (map field_text c.in_ok-fields.fields.items) c.in_ok-entries.ensures
    (IsPermutation-map entry_text c.in_ok-entries.entries.items c.sort_by.new.self.items c.in_ok-sort_by.ensures.permutation)
    (c.in_ok-fields.ensures ∙ ap (λ entries. gathered [] (map entry_text entries)) c.deref-2.ensures.value)
