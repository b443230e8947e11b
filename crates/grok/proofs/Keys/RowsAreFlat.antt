-- The base keys that rows stand for, row after row, and their counts in each part.
use Rattle.std.proofs.Common.{◌≡◌, ℕ, zero, suc, ◌+◌, ◌<◌, List, [], ◌∷◌, ◌++◌, length, get_or, take, drop, refl, sym, ◌∙◌, ap, subst, inl, inr, arith, append_assoc, append-nil, take-append-drop, get_or-take, length-take}
use Rattle.std.proofs.lemmas.Bool.{cases_order}
use Rattle.std.proofs.lemmas.List.{take_more, drop_more, get_or_append_left, get_or_push, get_or_past, length_push}
use Rattle.grok.specs.declared.expand.rows.Row.{Row}
use Rattle.grok.specs.declared.expand.rows.Row.TheVariants.{Use, Part}
use Rattle.grok.specs.declared.expand.uses.Uses.{Uses}
use Rattle.grok.specs.steps.Rows.{part_keys, flat, AreBelow}
use Rattle.grok.specs.steps.CountedUses.{no_uses, AreUsesOf, AreCountsOf}
use Rattle.grok.proofs.Keys.UsesOfKeys.{nothing_counted}
use Rattle.grok.proofs.Keys.RowsOfOnePartMore.{flat-append}

-- ---- rows

-- one row more
pub flat_row_more : (done : List (List (List ℕ))) (rows : List Row) (i : ℕ) (d : Row) → i < length rows → flat done (take (i + 1) rows) ≡ flat done (take i rows) ++ flat done (get_or rows i d ∷ [])
flat_row_more done rows i d low = ap (flat done) (take_more rows i d low) ∙ flat-append done (take i rows) (get_or rows i d ∷ [])

-- what a row reads as past the end
abbrev pub nothing : Row
nothing = Use (record { ref_ptr = (0, 0); now = [] })

pub flat_after : (done : List (List (List ℕ))) (before : List (List ℕ)) (rows : List Row) (i : ℕ) → i < length rows → before ++ flat done (take (i + 1) rows) ≡ (before ++ flat done (take i rows)) ++ flat done (get_or rows i nothing ∷ [])
flat_after done before rows i low = ap (λ keys. before ++ keys) (flat_row_more done rows i nothing low) ∙ sym (append_assoc before (flat done (take i rows)) (flat done (get_or rows i nothing ∷ [])))

-- the rows before one of them, that row, and those after it
pub flat_cut : (done : List (List (List ℕ))) (rows : List Row) (i : ℕ) (d : Row) → i < length rows → flat done rows ≡ flat done (take i rows) ++ (flat done (get_or rows i d ∷ []) ++ flat done (drop (i + 1) rows))
flat_cut done rows i d low =
    ap (flat done) (sym (take-append-drop i rows) ∙ ap (λ rest. take i rows ++ rest) (drop_more rows i d low))
    ∙ flat-append done (take i rows) (get_or rows i d ∷ drop (i + 1) rows)
    ∙ ap (λ keys. flat done (take i rows) ++ keys) (flat-append done (get_or rows i d ∷ []) (drop (i + 1) rows))

pub flat_part : (done : List (List (List ℕ))) (index : ℕ) → flat done (Part index ∷ []) ≡ part_keys done index
flat_part done index = append-nil (part_keys done index)

-- rows that name only parts below the bound need only their base keys
pub flat_below : (done : List (List (List ℕ))) (bound : ℕ) (rows : List Row) → AreBelow bound rows → flat (take bound done) rows ≡ flat done rows
flat_below done bound [] below = refl
flat_below done bound (Use key ∷ rows) below = ap (λ keys. key.now ∷ keys) (flat_below done bound rows below)
flat_below done bound (Part index ∷ rows) below =
    ap (λ keys. keys ++ flat (take bound done) rows) (get_or-take bound done index [] below.0)
    ∙ ap (λ keys. part_keys done index ++ keys) (flat_below done bound rows below.1)

-- ---- bounds

pub below-take : (bound i : ℕ) (rows : List Row) → AreBelow bound rows → AreBelow bound (take i rows)
below-take bound zero rows p = tt
below-take bound (suc i) [] p = tt
below-take bound (suc i) (Use key ∷ rows) p = below-take bound i rows p
below-take bound (suc i) (Part index ∷ rows) p = (p.0, below-take bound i rows p.1)

pub below_at : (bound i : ℕ) (rows : List Row) (d : Row) → i < length rows → AreBelow bound rows → AreBelow bound (get_or rows i d ∷ [])
below_at bound i [] d low p = absurd (omega arith)
below_at bound zero (Use key ∷ rows) d low p = tt
below_at bound zero (Part index ∷ rows) d low p = (p.0, tt)
below_at bound (suc i) (Use key ∷ rows) d low p = below_at bound i rows d (omega arith) p
below_at bound (suc i) (Part index ∷ rows) d low p = below_at bound i rows d (omega arith) p.1

-- ---- counts of parts

-- the counts of one part more
pub counts_more : (base : List ℕ) (done : List (List (List ℕ))) (counts : List Uses) (uses : Uses) (i : ℕ) → i < length done → length counts ≡ i → AreCountsOf base (take i done) counts
    → AreUsesOf base (part_keys done i) uses → AreCountsOf base (take (i + 1) done) (counts ++ uses ∷ [])
counts_more base done counts uses i low long are next index = elim (cases_order index i) [
  | inl same ↦
      let keys : get_or (take (i + 1) done) index [] ≡ part_keys done i = get_or-take (i + 1) done index [] (omega arith) ∙ ap (λ n. get_or done n []) same in
      let last : get_or (counts ++ uses ∷ []) index no_uses ≡ uses = get_or_push counts uses no_uses index (omega (arith, long, same)) in
      subst (λ ks. AreUsesOf base ks (get_or (counts ++ uses ∷ []) index no_uses)) (sym keys) (subst (AreUsesOf base (part_keys done i)) (sym last) next)
  | inr differs ↦ elim differs [
    | inl before ↦
        let keys : get_or (take (i + 1) done) index [] ≡ get_or (take i done) index [] = get_or-take (i + 1) done index [] (omega arith) ∙ sym (get_or-take i done index [] before) in
        let old : get_or (counts ++ uses ∷ []) index no_uses ≡ get_or counts index no_uses = get_or_append_left counts (uses ∷ []) no_uses index (omega (arith, long, before)) in
        subst (λ ks. AreUsesOf base ks (get_or (counts ++ uses ∷ []) index no_uses)) (sym keys) (subst (AreUsesOf base (get_or (take i done) index [])) (sym old) (are index))
    | inr after ↦
        let keys : get_or (take (i + 1) done) index [] ≡ [] = get_or_past (take (i + 1) done) index [] (omega (arith, length-take (i + 1) done)) in
        let none : get_or (counts ++ uses ∷ []) index no_uses ≡ no_uses = get_or_past (counts ++ uses ∷ []) index no_uses (omega (arith, length_push counts uses, long)) in
        subst (λ ks. AreUsesOf base ks (get_or (counts ++ uses ∷ []) index no_uses)) (sym keys) (subst (AreUsesOf base []) (sym none) (nothing_counted base))
  ]
]
