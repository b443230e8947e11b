use Rattle.std.proofs.Common.{ℕ, Bor, List, Vec, take, [], ◌∷◌, ◌++◌, ◌∙◌, ap, subst, sym}
use Rattle.std.specs.Global.{Global}
use Rattle.std.specs.List.{AllZip}
use Rattle.std.proofs.lemmas.List.{take_all, take_more}
use Rattle.std.proofs.lemmas.Slice.Zip.{all_zipped_more}
use Rattle.groklog_answers.specs.PlanViews.{names_of}
use Rattle.groklog_answers.specs.declared.searches.NamedPattern.{NamedPattern}
use Rattle.groklog_views.specs.KeyNumbers.{counts, AreNumbers, AreNumbersOf}
use Rattle.groklog_views.proofs.KeyNumbers.{all_kept}
use Rattle.groklog_views.proofs.located_fields.LocatedFields.new.Goals as goal

pub patterns-preserved : goal.patterns-preserved
patterns-preserved c =
    let patterns = c.args.patterns.now in
    let i = c.patterns.named-index in
    let keys = c.numbers_of.new.all.keys in
    let R : NamedPattern → Vec ℕ Global → Type 0 = λ named numbers. AreNumbersOf (counts c.args.fields) (names_of keys) named numbers.items in
    let named = c.named-item.result in
    let before : AllZip R (take i patterns) c.patterns.numbers_by_pattern.items =
    all_kept (counts c.args.fields) c.patterns.all.keys keys c.in_ok-numbers_of.ensures.kept (take i patterns) c.patterns.numbers_by_pattern.items c.patterns.invariant.numbers in
    let one : R named c.in_ok-numbers_of.field-0 = record {
      by_group = c.in_ok-by_group.by_group.items;
      all = c.in_ok-by_group.ensures.all;
      in_order = c.in_ok-by_group.ensures.sorted;
      numbered = subst (λ pairs. AreNumbers (counts c.args.fields) (names_of keys) pairs c.in_ok-numbers_of.field-0.items) c.deref.ensures.value c.in_ok-numbers_of.ensures.numbers;
    } in
    record {
      numbers = subst (λ done. AllZip R done c.push.new.self.items) (ap (λ item. take i patterns ++ item ∷ []) c.named-item.is ∙ sym (take_more patterns i _ c.patterns-test.true))
          (subst (AllZip R (take i patterns ++ named ∷ [])) (sym c.in_ok-push.ensures.items)
          (all_zipped_more R (take i patterns) c.patterns.numbers_by_pattern.items named c.in_ok-numbers_of.field-0 before one));
    }

pub returns-clause-numbers : goal.returns-clause-numbers
returns-clause-numbers c =
    let numbers = c.patterns.numbers_by_pattern.items in
    subst (λ (keys : List (Bor (List ℕ))). AllZip (λ (named : NamedPattern) (numbers : Vec ℕ Global). AreNumbersOf (counts c.args.fields) (names_of keys) named numbers.items) c.args.patterns.now numbers)
    (sym (c.in_ok-from_slice.ensures.items ∙ c.as_slice.ensures.keys))
    (subst (λ done. AllZip (λ (named : NamedPattern) (numbers : Vec ℕ Global). AreNumbersOf (counts c.args.fields) (names_of c.patterns.all.keys) named numbers.items) done numbers)
    (take_all c.patterns.named-index c.args.patterns.now c.patterns-test.false) c.patterns.invariant.numbers)
