-- Whether two keys clash depends only on how often each base key is used.
use Rattle.std.proofs.Common.{◌≡◌, ℕ, zero, suc, ◌+◌, ◌<◌, ◌≤◌, Bool, true, false, cond, List, [], ◌∷◌, ◌++◌, length, None, refl, sym, ◌∙◌, ap, subst, inl, inr, arith, append_assoc, length-append}
use Rattle.std.specs.Str.{bytes_eq}
use Rattle.std.proofs.lemmas.Bool.{true≢false, cases_Bool, cases_eq, false_from_ne_true}
use Rattle.grok.specs.Tree.{Label, Event, Text, Open, Close, FaultEvent, first_structural}
use Rattle.grok.specs.Keys.{is_capturing, capturing, base_key, numbered, how_often, key_after, is_among}
use Rattle.grok.specs.Numeral.{numeral}
use Rattle.grok.specs.steps.CapturedSoFar.{onto, taken_of, faults, after}
use Rattle.grok.specs.steps.KeyUses.{IsFree}
use Rattle.grok.proofs.Texts.EqualBytesAreSameText.{same_text, text_same}
use Rattle.grok.proofs.Keys.KeysAreDistinct.{numbered_both, how_often_more}
use Rattle.grok.proofs.Keys.FirstFaultAndLastExtract.{how_often_onto}

-- ---- how often a base key is used

pub how_often_own : (label : Label) (before : List Label) (key : List ℕ) → base_key label ≡ key → how_often (label ∷ before) key ≡ suc (how_often before key)
how_often_own label before key is =
    let one : cond {A = ℕ} (bytes_eq (base_key label) key) 1 0 ≡ 1 = ap (λ (b : Bool). cond {A = ℕ} b 1 0) (text_same (base_key label) key is) in
    omega (arith, how_often_more label before key)

pub how_often_other : (label : Label) (before : List Label) (key : List ℕ) → bytes_eq (base_key label) key ≡ false → how_often (label ∷ before) key ≡ how_often before key
how_often_other label before key other =
    let none : cond {A = ℕ} (bytes_eq (base_key label) key) 1 0 ≡ 0 = ap (λ (b : Bool). cond {A = ℕ} b 1 0) other in
    omega (arith, how_often_more label before key)

how_often-le : (label : Label) (before : List Label) (key : List ℕ) → how_often before key ≤ how_often (label ∷ before) key
how_often-le label before key = omega (arith, how_often_more label before key)

-- the uses of more placeholders are added
pub how_often-append : (xs ys : List Label) (key : List ℕ) → how_often (xs ++ ys) key ≡ how_often xs key + how_often ys key
how_often-append [] ys key = omega arith
how_often-append (x ∷ xs) ys key = omega (arith, how_often-append xs ys key, how_often_more x xs key, how_often_more x (xs ++ ys) key)

pub how_often-after : (alias_only : Bool) (before : List Label) (events : List Event) (key : List ℕ) → how_often (after alias_only before events) key ≡ how_often (capturing alias_only events) key + how_often before key
how_often-after alias_only before events key = omega (arith, how_often_onto before (capturing alias_only events) key)

-- ---- the keys that are taken

-- a key that is taken is a base key that is used, with a number below its uses
pub taken_is : (before : List Label) (key : List ℕ) → is_among key (taken_of before) ≡ true → (base : List ℕ) × (number : ℕ) × (number < how_often before base) × (key ≡ numbered base number)
taken_is [] key there = cc
taken_is (label ∷ before) key there = elim (cases_Bool (bytes_eq (key_after before label) key)) [
  | inl same ↦
      let most : how_often before (base_key label) < how_often (label ∷ before) (base_key label) = omega (arith, how_often_own label before (base_key label) refl) in
      (base_key label, how_often before (base_key label), most, sym (same_text (key_after before label) key same))
  | inr other ↦
      let (base, number, low, is) = taken_is before key (sym (ap (λ b. cond b true (is_among key (taken_of before))) other) ∙ there) in
      (base, number, omega (arith, low, how_often-le label before base), is)
]

pub is_taken : (before : List Label) (base : List ℕ) (number : ℕ) → number < how_often before base → is_among (numbered base number) (taken_of before) ≡ true
is_taken [] base number low = absurd (omega arith)
is_taken (label ∷ before) base number low = elim (cases_Bool (bytes_eq (key_after before label) (numbered base number))) [
  | inl same ↦ ap (λ b. cond b true (is_among (numbered base number) (taken_of before))) same
  | inr other ↦
      let earlier : number < how_often before base = elim (cases_Bool (bytes_eq (base_key label) base)) [
        | inl own ↦ elim (cases_eq number (how_often before base)) [
          | inl last ↦
              let is = same_text (base_key label) base own in
              let key : key_after before label ≡ numbered base number = ap (λ w. numbered w (how_often before w)) is ∙ ap (numbered base) (sym last) in
              absurd (true≢false (sym (text_same (key_after before label) (numbered base number) key) ∙ other))
          | inr apart ↦ omega (arith, low, apart, how_often_own label before base (same_text (base_key label) base own))
        ]
        | inr foreign ↦ omega (arith, low, how_often_other label before base foreign)
      ] in
      ap (λ b. cond b true (is_among (numbered base number) (taken_of before))) other ∙ is_taken before base number earlier
]

pub no_key_numbers_itself : (key : List ℕ) (count : ℕ) → key ≡ numbered key (suc count) → ⊥
no_key_numbers_itself key count e =
    let regroup : numbered key (suc count) ≡ key ++ (91 ∷ (numeral (suc count) ++ 93 ∷ [])) = simp append_assoc in
    let long : length key ≡ length (key ++ (91 ∷ (numeral (suc count) ++ 93 ∷ []))) = ap length (e ∙ regroup) in
    omega (arith, long, length-append key (91 ∷ (numeral (suc count) ++ 93 ∷ [])))

-- ---- one more placeholder

module _ (before : List Label) (label : Label) where
  -- if its key is taken, two keys clash with it
  pub clash_is_not_free : is_among (key_after before label) (taken_of before) ≡ true → IsFree (how_often (label ∷ before)) → ⊥
  clash_is_not_free taken free =
      let (base, number, low, is) = taken_is before (key_after before label) taken in
      go (how_often before (base_key label)) number base refl low is
    where
      go : (own number : ℕ) (base : List ℕ) → own ≡ how_often before (base_key label) → number < how_often before base → numbered (base_key label) own ≡ numbered base number → ⊥
      go zero zero base often low e = omega (arith, often, low, ap (how_often before) e)
      go zero (suc count) base often low e = omega (arith, low, free base count (omega (arith, how_often_own label before (numbered base (suc count)) e)), how_often-le label before base)
      go (suc count) zero base often low e = omega (arith, often, free (base_key label) count (omega (arith, low, ap (how_often before) e, how_often-le label before (numbered (base_key label) (suc count)))), how_often_own label before (base_key label) refl)
      go (suc own) (suc number) base often low e =
          let both = numbered_both (base_key label) base own number e in
          omega (arith, often, low, both.1, ap (how_often before) both.0)

-- ---- more events

pub free_below : (uses others : List ℕ → ℕ) → ((key : List ℕ) → others key ≤ uses key) → IsFree uses → IsFree others
free_below uses others less free key count some = omega (arith, less key, free key count (omega (arith, some, less (numbered key (suc count)))))

module _ (alias_only : Bool) where
  -- clean events bring no clash if their base keys stay free together with those before
  pub free_events : (before : List Label) (events : List Event) → first_structural events ≡ None → IsFree (how_often (after alias_only before events)) → faults alias_only before events ≡ None
  free_events before [] clean free = refl
  free_events before (Text text ∷ events) clean free = free_events before events clean free
  free_events before (Close ∷ events) clean free = free_events before events clean free
  free_events before (FaultEvent fault ∷ events) clean free = cc
  free_events before (Open label meaning ∷ events) clean free = elim (cases_Bool (is_capturing alias_only label)) [
    | inl is ↦
        let later : IsFree (how_often (after alias_only (label ∷ before) events)) = subst (λ b. IsFree (how_often (onto before (cond b (label ∷ capturing alias_only events) (capturing alias_only events))))) is free in
        let own : IsFree (how_often (label ∷ before)) = free_below (how_often (after alias_only (label ∷ before) events)) (how_often (label ∷ before)) (λ key. omega (arith, how_often-after alias_only (label ∷ before) events key)) later in
        let untaken : is_among (key_after before label) (taken_of before) ≡ false = false_from_ne_true (is_among (key_after before label) (taken_of before)) (λ taken. clash_is_not_free before label taken own) in
        rw (is, untaken) (free_events (label ∷ before) events clean later)
    | inr is ↦
        let later : IsFree (how_often (after alias_only before events)) = subst (λ b. IsFree (how_often (onto before (cond b (label ∷ capturing alias_only events) (capturing alias_only events))))) is free in
        rw is (free_events before events clean later)
  ]
