-- The group of a key is the greatest whose name means it.
use Rattle.std.proofs.Common.{◌≡◌, ℕ, zero, suc, ◌+◌, ◌<◌, ◌⊎◌, cond, List, [], ◌∷◌, Option, Some, None, MatchOption, refl, sym, ◌∙◌, ap, subst, inl, inr, arith}
use Rattle.std.specs.Str.{bytes_eq}
use Rattle.std.proofs.lemmas.Bool.{cases_Bool, true≢false}
use Rattle.grok.specs.KeyTable.{meant_key, groups_from, last_or, group_of}
use Rattle.grok.specs.AnswerLaws.{NameMeans, GroupsAreTheGreatest}
use Rattle.grok.proofs.Texts.EqualBytesAreSameText.{same_text, text_same}

at_each : (P : ℕ → Type 0) → P 0 → ((n : ℕ) → P (suc n)) → (n : ℕ) → P n
at_each P first later zero = first
at_each P first later (suc n) = later n

module _ (keys : List (List ℕ)) (key : List ℕ) where
  abbrev Means : List (Option (List ℕ)) → ℕ → Type 0
  Means names index = NameMeans keys names key index

  -- Either no name means the key, and the group is the one found before. Or the group is that of the last name
  -- that means the key.
  abbrev Outcome : Option ℕ → ℕ → List (Option (List ℕ)) → Option ℕ → Type 0
  Outcome found from names last =
      ((last ≡ found) × ((index : ℕ) → ¬ Means names index))
      ⊎ ((index : ℕ) × (last ≡ Some (from + index)) × Means names index × ((later : ℕ) → index < later → ¬ Means names later))

  later_on : (found : Option ℕ) (from : ℕ) (name : Option (List ℕ)) (names : List (Option (List ℕ))) (last : Option ℕ)
      → ((index : ℕ) × (last ≡ Some (suc from + index)) × Means names index × ((later : ℕ) → index < later → ¬ Means names later))
      → Outcome found from (name ∷ names) last
  later_on found from name names last (index, is, means, none) =
      let moved : suc from + index ≡ from + suc index = omega arith in
      inr (
        suc index,
        is ∙ ap Some moved,
        means,
        at_each (λ later. suc index < later → ¬ Means (name ∷ names) later) (λ low. absurd (omega arith)) (λ n low. none n (omega arith)),
      )

  passed : (found : Option ℕ) (from : ℕ) (name : Option (List ℕ)) (names : List (Option (List ℕ))) (last : Option ℕ)
      → ¬ Means (name ∷ names) 0 → Outcome found (suc from) names last → Outcome found from (name ∷ names) last
  passed found from name names last first (inl (is, none)) = inl (is, at_each (λ index. ¬ Means (name ∷ names) index) first none)
  passed found from name names last first (inr it) = later_on found from name names last it

  taken : (found : Option ℕ) (from : ℕ) (name : List ℕ) (names : List (Option (List ℕ))) (last : Option ℕ)
      → meant_key keys name ≡ key → Outcome (Some from) (suc from) names last → Outcome found from (Some name ∷ names) last
  taken found from name names last means (inl (is, none)) =
      let here : from ≡ from + 0 = omega arith in
      inr (
        0,
        is ∙ ap Some here,
        (name, refl, means),
        at_each (λ later. 0 < later → ¬ Means (Some name ∷ names) later) (λ low. absurd (omega arith)) (λ n low. none n),
      )
  taken found from name names last means (inr it) = later_on found from (Some name) names last it

  outcome : (found : Option ℕ) (from : ℕ) (names : List (Option (List ℕ))) → Outcome found from names (last_or found (groups_from keys key from names))
  outcome found from [] = inl (refl, λ index (name, at, means). cc)
  outcome found from (None ∷ names) = passed found from None names _ (λ (name, at, means). cc) (outcome found (suc from) names)
  outcome found from (Some name ∷ names) =
      let rest = groups_from keys key (suc from) names in
      elim (cases_Bool (bytes_eq (meant_key keys name) key)) [
        | inl same ↦
            let is : last_or found (groups_from keys key from (Some name ∷ names)) ≡ last_or (Some from) rest = ap (λ b. last_or found (cond b (from ∷ rest) rest)) same in
            subst (Outcome found from (Some name ∷ names)) (sym is)
            (taken found from name names (last_or (Some from) rest) (same_text (meant_key keys name) key same) (outcome (Some from) (suc from) names))
        | inr other ↦
            let is : last_or found (groups_from keys key from (Some name ∷ names)) ≡ last_or found rest = ap (λ b. last_or found (cond b (from ∷ rest) rest)) other in
            let not_here : ¬ Means (Some name ∷ names) 0 = λ (other_name, at, means).
            let it : name ≡ other_name = cc in
            true≢false (sym (text_same (meant_key keys name) key (ap (meant_key keys) it ∙ means)) ∙ other) in
            subst (Outcome found from (Some name ∷ names)) (sym is) (passed found from (Some name) names (last_or found rest) not_here (outcome found (suc from) names))
      ]

pub groups_are_the_greatest : GroupsAreTheGreatest
groups_are_the_greatest keys names key = from_outcome (group_of keys names key) (outcome keys key None 0 names)
  where
    from_outcome : (last : Option ℕ) → Outcome keys key None 0 names last
        → MatchOption last ((group : ℕ) → ¬ NameMeans keys names key group) (λ group. NameMeans keys names key group × ((later : ℕ) → group < later → ¬ NameMeans keys names key later))
    from_outcome last (inl (is, none)) = subst (λ o. MatchOption o ((group : ℕ) → ¬ NameMeans keys names key group) (λ group. NameMeans keys names key group × ((later : ℕ) → group < later → ¬ NameMeans keys names key later))) (sym is) none
    from_outcome last (inr (index, is, means, later)) =
        let plain : 0 + index ≡ index = omega arith in
        subst (λ o. MatchOption o ((group : ℕ) → ¬ NameMeans keys names key group) (λ group. NameMeans keys names key group × ((later : ℕ) → group < later → ¬ NameMeans keys names key later))) (sym (is ∙ ap Some plain)) (means, later)
