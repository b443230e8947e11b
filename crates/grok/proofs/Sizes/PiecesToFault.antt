-- Measuring reads the pieces of the pattern itself up to the first one that has a fault in it.
use Rattle.std.proofs.Common.{◌≡◌, ℕ, zero, suc, ◌+◌, ◌≤◌, Bool, true, false, cond, List, [], ◌∷◌, Result, Some, None, Ok, Err, refl, sym, ◌∙◌, ap, subst, arith}
use Rattle.std.specs.Prelude.{is_some}
use Rattle.grok.specs.Tree.{Definitions, Fault, Label, Item, Event, events, inside, first_structural}
use Rattle.grok.specs.steps.Sizes.{Size, no_size, both, size_or_fault}
use Rattle.grok.specs.steps.MeasuredOnce.{State, Reading, nothing_measured, measure_within}
use Rattle.grok.specs.Measured.{items_to_fault}
use Rattle.grok.proofs.Sizes.TextsWithoutPlaceholders.{IsSound}
use Rattle.grok.proofs.Sizes.SizesByLevels.{of_item, of_items, deep_after_size}
use Rattle.grok.proofs.Sizes.SizeIsThatOfTree.{agrees_items, fault_items, fits_inside}
use Rattle.grok.proofs.Sizes.ReadingInduction.{InductionSteps, reads}
use Rattle.grok.proofs.Sizes.RememberingChangesNothing.{IsHonest, OpenLead, lead_through, RightItem, RightItems, RightText, right}

abbrev is_fault : Result Size Fault → Bool
is_fault (Ok size) = false
is_fault (Err fault) = true

at_most_next : (b : Bool) (n : ℕ) → cond b 1 (suc n) ≤ suc n
at_most_next true n = omega arith
at_most_next false n = omega arith

module _ (alias_only : Bool) (resolve : List ℕ → List Item) (definitions : Definitions) where
  -- how many items there are up to the first one with a fault, which is read too
  abbrev to_fault : ℕ → List Item → ℕ
  to_fault levels [] = 0
  to_fault levels (item ∷ items) = cond (is_fault (of_item alias_only resolve item levels)) 1 (suc (to_fault levels items))

  -- the result is right, and no counter falls
  record AheadItem (levels : ℕ) (item : Item) (st : State) (answer : Reading) : Type 0 where
    is : RightItem alias_only resolve definitions levels item st answer
    keeps : st.looks ≤ answer.1.looks

  record AheadText (levels : ℕ) (label : Label) (text : List ℕ) (st : State) (answer : Reading) : Type 0 where
    is : RightText alias_only resolve definitions levels label text st answer
    keeps : st.looks ≤ answer.1.looks

  record AheadItems (levels : ℕ) (items : List Item) (st : State) (answer : Reading) : Type 0 where
    is : RightItems alias_only resolve definitions levels items st answer
    keeps : st.looks ≤ answer.1.looks
    least : IsHonest alias_only resolve definitions st → OpenLead alias_only resolve definitions st (of_items alias_only resolve items)
        → st.looks + to_fault levels items ≤ answer.1.looks

  ahead : InductionSteps alias_only resolve definitions AheadItem AheadItems AheadText
  ahead =
      let step = right alias_only resolve definitions in
      record {
        text = λ levels text st. record { is = step.text levels text st; keeps = omega arith };
        fault = λ levels fault st. record { is = step.fault levels fault st; keeps = omega arith };
        inline = λ levels label text st flat. record { is = step.inline levels label text st flat; keeps = omega arith };
        stored = λ levels label text st inner h. record { is = step.stored levels label text st inner h.is; keeps = h.keeps };
        none = λ levels st. record { is = step.none levels st; keeps = omega arith; least = λ honest lead. omega arith };
        failed = λ levels item items st fault st' h. record {
          is = step.failed levels item items st fault st' h.is;
          keeps = omega (arith, h.keeps);
          least = λ honest lead.
              let same : Err fault ≡ of_item alias_only resolve item levels = (h.is items honest lead).same in
              let one : to_fault levels (item ∷ items) ≡ 1 = ap (λ r. cond (is_fault r) 1 (suc (to_fault levels items))) (sym same) in
              omega (arith, h.keeps, one);
        };
        more = λ levels item items st a st' later h rest. record {
          is = step.more levels item items st a st' later h.is rest.is;
          keeps = omega (arith, h.keeps, rest.keeps);
          least = λ honest lead.
              let f = of_item alias_only resolve item in
              let g = of_items alias_only resolve items in
              let o = h.is items honest lead in
              let here = o.settles (λ e. cc) in
              let lead' = lead_through alias_only resolve definitions st (of_items alias_only resolve (item ∷ items)) g (deep_after_size f g a.height a here) lead in
              let l = rest.least o.honest (λ name text cache stored. lead' name text (o.opens name cache) stored) in
              omega (arith, h.keeps, l, at_most_next (is_fault (f levels)) (to_fault levels items));
        };
        deep = λ label text st. record { is = step.deep label text st; keeps = omega arith };
        known = λ levels label text st progress r stored is e. record { is = step.known levels label text st progress r stored is e; keeps = omega arith };
        fresh = λ levels label text st answer stored unread h. record { is = step.fresh levels label text st answer stored unread h.is; keeps = h.keeps };
      }

  -- the item has a fault exactly if its events have one
  fault_alike : (levels : ℕ) (item : Item) (r : Result Size Fault) → of_item alias_only resolve item levels ≡ r
      → is_some (first_structural (events (inside resolve levels) (item ∷ []))) ≡ is_fault r
  fault_alike levels item (Ok size) e =
      let both_is : of_items alias_only resolve (item ∷ []) levels ≡ both (Ok size) (Ok no_size) = ap (λ r. both r (Ok no_size)) e in
      ap is_some (agrees_items alias_only (size_or_fault alias_only resolve levels) (inside resolve levels) (fits_inside alias_only resolve levels) (item ∷ []) _ both_is).clean
  fault_alike levels item (Err fault) e =
      let both_is : of_items alias_only resolve (item ∷ []) levels ≡ Err fault = ap (λ r. both r (Ok no_size)) e in
      ap is_some (fault_items alias_only (size_or_fault alias_only resolve levels) (inside resolve levels) (fits_inside alias_only resolve levels) (item ∷ []) fault both_is)

  to_fault_is : (levels : ℕ) (items : List Item) → items_to_fault (inside resolve levels) items ≡ to_fault levels items
  to_fault_is levels [] = refl
  to_fault_is levels (item ∷ items) =
      rw (fault_alike levels item (of_item alias_only resolve item levels) refl, to_fault_is levels items) refl

  -- THE THEOREM
  pub reads_to_fault : IsSound resolve definitions → (levels : ℕ) (pattern : List ℕ)
      → items_to_fault (inside resolve levels) (resolve pattern) ≤ (measure_within levels alias_only resolve pattern).1.looks
  unfolding measure_within
  reads_to_fault sound levels pattern =
      let all = reads alias_only resolve definitions AheadItem AheadItems AheadText ahead sound levels pattern nothing_measured in
      let least = all.least (λ name progress text is stored. cc) (λ name text is stored. cc) in
      omega (arith, to_fault_is levels (resolve pattern), least)
