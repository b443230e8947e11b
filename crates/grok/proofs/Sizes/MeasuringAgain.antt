-- What is remembered from earlier measurements changes no result, and stays right.
use Rattle.std.proofs.Common.{◌≡◌, ℕ, Bool, List, length, Result, Some, Ok, Err, refl, sym, ◌∙◌, ap, inl, inr}
use Rattle.std.specs.FinMap as finite
use Rattle.grok.specs.declared.measure.partial_size.Failure.{Failure}
use Rattle.grok.specs.declared.measure.partial_size.PartialSize.{PartialSize}
use Rattle.grok.specs.declared.measure.cache.MeasureCache.{MeasureCache}
use Rattle.grok.specs.Maps.{Texts}
use Rattle.grok.specs.Tree.{Fault, Item, items_of, deepest, tree}
use Rattle.grok.specs.Expanded.{expanded, groups, nesting}
use Rattle.grok.specs.steps.Sizes.{Size, sizes, size_or_fault}
use Rattle.grok.specs.steps.MeasuredOnce.{State, nothing_measured, items_within}
use Rattle.grok.specs.Measured.{Measured, size_within, fault_or, measured_tree}
use Rattle.grok.specs.steps.MeasureCache.{shown_result, result_view, measured_size, ShowsState, AnswersReading, IsCorrect, ShowsCorrectState}
use Rattle.grok.proofs.Sizes.SizeIsThatOfTree.{tree_sizes}
use Rattle.grok.proofs.Sizes.RememberingChangesNothing.{RightAnswer, look_right}
use Rattle.grok.proofs.Sizes.ItemsAreSound.{sound_texts}

module _ (texts : Texts) (alias_only : Bool) where
  abbrev resolve : List ℕ → List Item
  resolve = items_of (finite.get texts)

  outcome : (levels : ℕ) (pattern : List ℕ) (st : State) → IsCorrect texts alias_only st → RightAnswer alias_only resolve (finite.get texts) levels pattern st
  outcome levels pattern st t =
      look_right alias_only resolve (finite.get texts) (sound_texts (finite.get texts)) levels pattern st (λ name progress text is stored. inr (t.says name progress text is stored)) t.none_begun

  pub nothing_true : IsCorrect texts alias_only nothing_measured
  nothing_true = record { none_begun = λ name is. cc; says = λ name progress text is stored. cc }

  -- the plain size gives the result for the tree
  pub tree_from : (pattern : List ℕ) (s : Result Size Fault) → sizes alias_only (size_or_fault alias_only resolve deepest) (resolve pattern) ≡ s → measured_size s ≡ measured_tree alias_only (tree (finite.get texts) pattern)
  unfolding tree
  tree_from pattern (Err fault) is =
      let t = tree_sizes alias_only resolve deepest pattern in
      let whole = tree (finite.get texts) pattern in
      sym (ap (λ o. fault_or o (size_within (length (expanded alias_only whole)) (groups alias_only whole) (nesting whole))) (t.on_err fault is))
  tree_from pattern (Ok z) is =
      let t = tree_sizes alias_only resolve deepest pattern in
      rw (t.clean z is, t.length z is, t.groups z is, t.nesting z is) refl

  module _ (levels : ℕ) (pattern : List ℕ) (r : Result PartialSize Failure) (before cache : MeasureCache)
      (reads : (st : State) → ShowsState before st → AnswersReading r cache (items_within alias_only resolve levels (resolve pattern) st)) where
    -- the result is the plain size or fault
    size_at : (st : State) → ShowsState before st → IsCorrect texts alias_only st → result_view r ≡ shown_result (sizes alias_only (size_or_fault alias_only resolve levels) (resolve pattern))
    size_at st shows t = (reads st shows).same ∙ ap shown_result (outcome levels pattern st t).same

    pub size_is : ShowsCorrectState texts alias_only before → result_view r ≡ shown_result (sizes alias_only (size_or_fault alias_only resolve levels) (resolve pattern))
    size_is known = size_at known.st known.shows known.is_true

    -- what stays
    pub stays_true : ShowsCorrectState texts alias_only before → ShowsCorrectState texts alias_only cache
    stays_true known =
        let st = known.st in
        let t = known.is_true in
        let o = outcome levels pattern st t in
        let last = (items_within alias_only resolve levels (resolve pattern) st).1 in
        record {
          st = last;
          shows = (reads st known.shows).leaves;
          is_true = record {
            none_begun = λ name is. t.none_begun name (o.opens name is);
            says = λ name progress text is stored. elim (o.honest name progress text is stored) [
              | inl begun ↦ absurd (t.none_begun name (o.opens name (is ∙ ap Some begun)))
              | inr says ↦ says
            ];
          };
        }

  module _ (pattern : List ℕ) (r : Result PartialSize Failure) (before cache : MeasureCache)
      (reads : (st : State) → ShowsState before st → AnswersReading r cache (items_within alias_only resolve deepest (resolve pattern) st)) where
    pub answer_is : (st : State) → ShowsState before st → IsCorrect texts alias_only st → (m : Measured) → ((s : Result Size Fault) → result_view r ≡ shown_result s → m ≡ measured_size s)
        → m ≡ measured_tree alias_only (tree (finite.get texts) pattern)
    answer_is st shows t m h =
        let answer = items_within alias_only resolve deepest (resolve pattern) st in
        h answer.0 (reads st shows).same ∙ tree_from pattern answer.0 (sym (outcome deepest pattern st t).same)
