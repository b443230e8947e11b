-- What rows stand for stays the same if one part more is known.
use Rattle.std.proofs.Common.{◌≡◌, ℕ, zero, suc, ◌<◌, ◌≤◌, List, [], ◌∷◌, ◌++◌, length, Some, refl, sym, ◌∙◌, ap, subst, ◌⊎◌, inl, inr, arith, append_assoc, length-append}
use Rattle.std.specs.Prelude.{slice_get, Vec}
use Rattle.std.specs.Global.{Global}
use Rattle.std.proofs.lemmas.List.{get_or_append_left, get_or_push}
use Rattle.std.proofs.lemmas.Option.{slice_get_within, none-some, same_Some}
use Rattle.grok.specs.steps.Rows.{part_keys, flat, AreBelow, AreKeysOfParts}
use Rattle.grok.specs.declared.expand.rows.Row.{Row}
use Rattle.grok.specs.declared.expand.rows.Row.TheVariants.{Use, Part}

-- ---- rows after others

pub flat-append : (done : List (List (List ℕ))) (xs ys : List Row) → flat done (xs ++ ys) ≡ flat done xs ++ flat done ys
flat-append done [] ys = refl
flat-append done (Use key ∷ xs) ys = ap (λ ks. key.now ∷ ks) (flat-append done xs ys)
flat-append done (Part index ∷ xs) ys =
    ap (λ ks. part_keys done index ++ ks) (flat-append done xs ys) ∙ sym (append_assoc (part_keys done index) (flat done xs) (flat done ys))

pub below-append : (bound : ℕ) (xs ys : List Row) → AreBelow bound xs → AreBelow bound ys → AreBelow bound (xs ++ ys)
below-append bound [] ys below more = more
below-append bound (Use key ∷ xs) ys below more = below-append bound xs ys below more
below-append bound (Part index ∷ xs) ys below more = (below.0, below-append bound xs ys below.1 more)

pub below_weaker : (low high : ℕ) (rows : List Row) → low ≤ high → AreBelow low rows → AreBelow high rows
below_weaker low high [] le below = tt
below_weaker low high (Use key ∷ rows) le below = below_weaker low high rows le below
below_weaker low high (Part index ∷ rows) le below = (let less : index < low = below.0 in omega arith, below_weaker low high rows le below.1)

-- ---- one part more

pub flat_more : (done more : List (List (List ℕ))) (rows : List Row) → AreBelow (length done) rows → flat (done ++ more) rows ≡ flat done rows
flat_more done more [] below = refl
flat_more done more (Use key ∷ rows) below = ap (λ ks. key.now ∷ ks) (flat_more done more rows below)
flat_more done more (Part index ∷ rows) below =
    ap (λ ks. ks ++ flat (done ++ more) rows) (get_or_append_left done more [] index below.0)
    ∙ ap (λ ks. part_keys done index ++ ks) (flat_more done more rows below.1)

slice_get_push : {X : Type 0} (xs : List X) (x y : X) (i : ℕ) → slice_get (xs ++ x ∷ []) i ≡ Some y → (slice_get xs i ≡ Some y) ⊎ ((i ≡ length xs) × (x ≡ y))
slice_get_push [] x y zero at = inr (refl, same_Some x y at)
slice_get_push [] x y (suc i) at = absurd (none-some y at)
slice_get_push (z ∷ xs) x y zero at = inl at
slice_get_push (z ∷ xs) x y (suc i) at = elim (slice_get_push xs x y i at) [
  | inl earlier ↦ inl earlier
  | inr (is, same) ↦ inr (ap suc is, same)
]

module _ (parts : List (Vec Row Global)) (done : List (List (List ℕ))) (k : AreKeysOfParts parts done) (rows : Vec Row Global) (below : AreBelow (length done) rows.items) where
  pub one_part_more : AreKeysOfParts (parts ++ rows ∷ []) (done ++ flat done rows.items ∷ [])
  one_part_more = record {
    same = omega (arith, length-append parts (rows ∷ []), length-append done (flat done rows.items ∷ []), k.same);
    each = λ index its at. elim (slice_get_push parts rows its index at) [
      | inl earlier ↦
          let within : index < length done = omega (arith, slice_get_within parts index its earlier, k.same) in
          let low : AreBelow (length done) its.items = below_weaker index (length done) its.items (omega arith) (k.falls index its earlier) in
          get_or_append_left done (flat done rows.items ∷ []) [] index within ∙ k.each index its earlier ∙ sym (flat_more done (flat done rows.items ∷ []) its.items low)
      | inr (is, this) ↦
          get_or_push done (flat done rows.items) [] index (sym k.same ∙ sym is)
          ∙ sym (flat_more done (flat done rows.items ∷ []) rows.items below)
          ∙ ap (λ (v : Vec Row Global). flat (done ++ flat done rows.items ∷ []) v.items) this
    ];
    falls = λ index its at. elim (slice_get_push parts rows its index at) [
      | inl earlier ↦ k.falls index its earlier
      | inr (is, this) ↦ subst (λ (v : Vec Row Global). AreBelow index v.items) this (subst (λ n. AreBelow n rows.items) (sym k.same ∙ sym is) below)
    ];
  }
