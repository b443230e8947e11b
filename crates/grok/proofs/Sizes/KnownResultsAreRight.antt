-- What is remembered of a name is right for its definition.
use Rattle.std.proofs.Common.{◌≡◌, ℕ, Bool, List, [], ◌∷◌, Option, Result, Some, None, Ok, Err, refl, sym, ◌∙◌, ap}
use Rattle.std.specs.FinMap as finite
use Rattle.grok.specs.declared.measure.partial_size.PartialSize.{PartialSize}
use Rattle.grok.specs.declared.measure.partial_size.Failure.{Failure}
use Rattle.grok.specs.Maps.{Texts}
use Rattle.grok.specs.Tree.{Fault, TooDeep, Item, inside, first_structural, Close}
use Rattle.grok.specs.steps.Sizes.{Size, no_size, size_or_fault}
use Rattle.grok.specs.steps.MeasuredOnce.{Progress, known_result, State, Reading, by_progress}
use Rattle.grok.specs.steps.MeasureCache.{fault_in, items_in, shown_result, result_view, RemembersReading, IsCorrect}
use Rattle.grok.proofs.Sizes.SizeIsThatOfTree.{first_structural-append, or_else, fits_inside}

-- the first fault inside an opened text is that of its size
pub fault_inside : (alias_only : Bool) (resolve : List ℕ → List Item) (levels : ℕ) (text : List ℕ) (s : Result Size Fault) → size_or_fault alias_only resolve levels text ≡ s
    → fault_in s ≡ first_structural (inside resolve levels text)
fault_inside alias_only resolve levels text (Err fault) e = sym ((fits_inside alias_only resolve levels).on_err text fault e)
fault_inside alias_only resolve levels text (Ok z) e =
    let (es, is, agrees) = (fits_inside alias_only resolve levels).on_ok text z e in
    sym (ap first_structural is ∙ first_structural-append es (Close ∷ []) ∙ ap (λ o. or_else o None) agrees.clean)

-- a size and a fault also differ as contracts see them
apart : (v : Result PartialSize Fault) → v ≡ shown_result (Ok no_size) → v ≡ shown_result (Err TooDeep) → ⊥
apart v a b = let bad : shown_result (Ok no_size) ≡ shown_result (Err TooDeep) = sym a ∙ b in cc

-- what is remembered of a name is right for its definition
pub known_is : (texts : Texts) (alias_only : Bool) (name text : List ℕ) (levels : ℕ) (r : Result PartialSize Failure) (st : State) → IsCorrect texts alias_only st → finite.get texts name ≡ Some text
    → ((fresh : Reading) → RemembersReading r st (by_progress (st.by_name name) levels st fresh))
    → result_view r ≡ shown_result (size_or_fault alias_only (items_in texts) levels text)
known_is texts alias_only name text levels r st t stored knows = go (st.by_name name) refl knows
  where
    go : (m : Option (Progress Size)) → st.by_name name ≡ m → ((fresh : Reading) → RemembersReading r st (by_progress m levels st fresh)) → result_view r ≡ shown_result (size_or_fault alias_only (items_in texts) levels text)
    go None is k = absurd (apart (result_view r) (k (Ok no_size, st)).same (k (Err TooDeep, st)).same)
    go (Some progress) is k = by (known_result progress levels) refl
      where
        by : (o : Option (Result Size Fault)) → known_result progress levels ≡ o → result_view r ≡ shown_result (size_or_fault alias_only (items_in texts) levels text)
        by None e =
            let one = rw e at (k (Ok no_size, st)).same in
            let two = rw e at (k (Err TooDeep, st)).same in
            absurd (apart (result_view r) one two)
        by (Some s) e =
            let same : result_view r ≡ shown_result s = rw e at (k (Err TooDeep, st)).same in
            same ∙ ap shown_result (sym (t.says name progress text is stored levels s e))
