-- What is counted of the uses of one base key is enough to know whether it stays free of clashes.
use Rattle.std.proofs.Common.{◌≡◌, ◌↔◌, ℕ, zero, suc, ◌+◌, ◌-◌, ◌<◌, ◌≤◌, ◌^◌, min, Bool, true, false, cond, List, [], ◌∷◌, ◌++◌, map, refl, sym, ◌∙◌, ap, subst, inl, inr, arith, Option, Some, None, MatchOption, unwrap_or}
use Rattle.std.specs.Str.{bytes_eq}
use Rattle.std.proofs.lemmas.Bool.{true≢false, cases_Bool, cases_eq, cases_lt, false_from_ne_true}
use Rattle.std.proofs.lemmas.List.Sums.{sum_by-cons, sum_by-append}
use Rattle.grok.specs.Tree.{Label}
use Rattle.grok.specs.Keys.{numbered, base_key, how_often}
use Rattle.grok.specs.steps.KeyUses.{MayBeUsed}
use Rattle.grok.specs.declared.expand.uses.Uses.{Uses}
use Rattle.grok.specs.steps.Rows.{uses_in}
use Rattle.grok.specs.steps.FirstClashes.{ClashesAfter}
use Rattle.grok.specs.steps.CountedUses.{no_uses, HasNoNumber, IsLeastNumber, HasLeast, AreUsesOf, lesser, IsFreeAt}
use Rattle.grok.proofs.Texts.EqualBytesAreSameText.{same_text, text_same}
use Rattle.grok.proofs.Keys.KeysAreDistinct.{numbered_both, how_often_more}
use Rattle.grok.proofs.Keys.ClashesByUses.{no_key_numbers_itself}

-- ---- how often a base key is used

pub uses_in-cons : (other : List ℕ) (keys : List (List ℕ)) (key : List ℕ) → uses_in (other ∷ keys) key ≡ cond (bytes_eq other key) 1 0 + uses_in keys key
uses_in-cons other keys key = sum_by-cons (λ (o : List ℕ). cond {A = ℕ} (bytes_eq o key) 1 0) other keys

pub uses_in-append : (xs ys : List (List ℕ)) (key : List ℕ) → uses_in (xs ++ ys) key ≡ uses_in xs key + uses_in ys key
uses_in-append xs ys key = sum_by-append (λ (o : List ℕ). cond {A = ℕ} (bytes_eq o key) 1 0) xs ys

pub used_once : (other key : List ℕ) → other ≡ key → uses_in (other ∷ []) key ≡ 1
used_once other key is =
    let one : cond {A = ℕ} (bytes_eq other key) 1 0 ≡ 1 = ap (λ (b : Bool). cond {A = ℕ} b 1 0) (text_same other key is) in
    let none : uses_in [] key ≡ 0 = refl in
    omega (arith, uses_in-cons other [] key)

pub not_used : (other key : List ℕ) → (other ≡ key → ⊥) → uses_in (other ∷ []) key ≡ 0
not_used other key apart =
    let zero : cond {A = ℕ} (bytes_eq other key) 1 0 ≡ 0 = ap (λ (b : Bool). cond {A = ℕ} b 1 0) (false_from_ne_true (bytes_eq other key) (λ same. apart (same_text other key same))) in
    let none : uses_in [] key ≡ 0 = refl in
    omega (arith, uses_in-cons other [] key)

-- the uses of labels are those of their base keys
pub how_often_in : (labels : List Label) (key : List ℕ) → how_often labels key ≡ uses_in (map base_key labels) key
how_often_in [] key = refl
how_often_in (label ∷ labels) key = omega (arith, how_often_more label labels key, uses_in-cons (base_key label) (map base_key labels) key, how_often_in labels key)

-- ---- counts

module _ (base : List ℕ) where
  unlimited : (keys : List (List ℕ)) → HasNoNumber base keys → (times : ℕ) → MayBeUsed (uses_in keys) base times
  unlimited keys none times count some = absurd (omega (arith, some, none count))

  pub nothing_counted : AreUsesOf base [] no_uses
  nothing_counted = record { times = refl; least = λ count. refl }

  -- one base key
  module _ (key : List ℕ) where
    pub own_counted : key ≡ base → AreUsesOf base (key ∷ []) (record { times = 1; least = None })
    own_counted is = record {
      times = omega (arith, used_once key base is);
      least = λ count. not_used key (numbered base (suc count)) (λ e. no_key_numbers_itself base count (sym is ∙ e));
    }

    least_of_one : (least : Option ℕ) → MatchOption least ((count : ℕ) → key ≡ numbered base (suc count) → ⊥) (λ number. (count : ℕ) × (key ≡ numbered base (suc count)) × (number ≡ min (suc count) (2 ^ 64 - 1))) → HasLeast base (key ∷ []) least
    least_of_one None unnumbered = λ count. not_used key (numbered base (suc count)) (unnumbered count)
    least_of_one (Some least) (number, is, fits) =
        let here : uses_in (key ∷ []) (numbered base (suc number)) ≡ 1 = used_once key (numbered base (suc number)) is in
        record {
          some = λ none. omega (arith, none number, here);
          fits = omega (arith, fits);
          bound = λ times low. (
            λ le count some. elim (cases_eq count number) [
              | inl same ↦ omega (arith, same, le, fits)
              | inr differs ↦ absurd (omega (arith, some, not_used key (numbered base (suc count)) (λ e. differs (omega (arith, (numbered_both base base count number (sym e ∙ is)).1)))))
            ],
            λ may. omega (arith, may number (omega (arith, here)), low, fits),
          );
        }

    pub other_counted : (least : Option ℕ) → (key ≡ base → ⊥) → MatchOption least ((count : ℕ) → key ≡ numbered base (suc count) → ⊥) (λ number. (count : ℕ) × (key ≡ numbered base (suc count)) × (number ≡ min (suc count) (2 ^ 64 - 1)))
        → AreUsesOf base (key ∷ []) (record { times = 0; least = least })
    other_counted least apart is = record { times = omega (arith, not_used key base apart); least = least_of_one least is }

  -- two counts together
  module _ (keys others : List (List ℕ)) where
    may_both : (times : ℕ) → MayBeUsed (uses_in (keys ++ others)) base times ↔ (MayBeUsed (uses_in keys) base times × MayBeUsed (uses_in others) base times)
    may_both times = (
      λ may. (
        λ count some. may count (omega (arith, some, uses_in-append keys others (numbered base (suc count)))),
        λ count some. may count (omega (arith, some, uses_in-append keys others (numbered base (suc count)))),
      ),
      λ (may, can) count some. elim (cases_lt 0 (uses_in keys (numbered base (suc count)))) [
        | inl here ↦ may count here
        | inr none ↦ can count (omega (arith, some, none, uses_in-append keys others (numbered base (suc count))))
      ],
    )

    none_left : HasNoNumber base (keys ++ others) → HasNoNumber base keys
    none_left none count = omega (arith, none count, uses_in-append keys others (numbered base (suc count)))

    none_right : HasNoNumber base (keys ++ others) → HasNoNumber base others
    none_right none count = omega (arith, none count, uses_in-append keys others (numbered base (suc count)))

    least_of_both : (least other : Option ℕ) → HasLeast base keys least → HasLeast base others other → HasLeast base (keys ++ others) (lesser least other)
    least_of_both None None p q = λ count. omega (arith, p count, q count, uses_in-append keys others (numbered base (suc count)))
    least_of_both None (Some other) p q = record {
      some = λ none. q.some (none_right none);
      fits = q.fits;
      bound = λ times low. (
        λ le. (may_both times).1 (unlimited keys p times, (q.bound times low).0 le),
        λ may. (q.bound times low).1 ((may_both times).0 may).1,
      );
    }
    least_of_both (Some least) None p q = record {
      some = λ none. p.some (none_left none);
      fits = p.fits;
      bound = λ times low. (
        λ le. (may_both times).1 ((p.bound times low).0 le, unlimited others q times),
        λ may. (p.bound times low).1 ((may_both times).0 may).0,
      );
    }
    least_of_both (Some least) (Some other) p q = record {
      some = λ none. p.some (none_left none);
      fits = omega (arith, p.fits);
      bound = λ times low. (
        λ le. (may_both times).1 ((p.bound times low).0 (omega (arith, le)), (q.bound times low).0 (omega (arith, le))),
        λ may. let parts = (may_both times).0 may in omega (arith, (p.bound times low).1 parts.0, (q.bound times low).1 parts.1),
      );
    }

    pub both_counted : (u v : Uses) → AreUsesOf base keys u → AreUsesOf base others v → AreUsesOf base (keys ++ others) (record { times = min (u.times + v.times) (2 ^ 128 - 1); least = lesser u.least v.least })
    both_counted u v p q = record {
      times = omega (arith, p.times, q.times, uses_in-append keys others base);
      least = least_of_both u.least v.least p.least q.least;
    }

  module _ (keys : List (List ℕ)) where
    pub number_fits : (least : Option ℕ) → HasLeast base keys least → unwrap_or least (2 ^ 64 - 1) < 2 ^ 64
    number_fits None p = omega arith
    number_fits (Some number) p = p.fits

    least_below : (a b : ℕ) → IsLeastNumber base keys a → IsLeastNumber base keys b → a ≤ b
    least_below a b p q = (q.bound a p.fits).1 ((p.bound a p.fits).0 (omega arith))

    same_least : (a b : Option ℕ) → HasLeast base keys a → HasLeast base keys b → a ≡ b
    same_least None None p q = refl
    same_least None (Some b) p q = absurd (q.some p)
    same_least (Some a) None p q = absurd (p.some q)
    same_least (Some a) (Some b) p q =
        let same : a ≡ b = omega (arith, least_below a b p q, least_below b a q p) in
        ap (λ n. Some n) same

    -- base keys are counted in one way only
    pub same_counts : (u v : Uses) → AreUsesOf base keys u → AreUsesOf base keys v → IsFreeAt u.times u.least → IsFreeAt v.times v.least
    same_counts u v p q free = subst (λ times. IsFreeAt times v.least) (p.times ∙ sym q.times) (subst (IsFreeAt u.times) (same_least u.least v.least p.least q.least) free)

    -- a base key that is used at most as often as the least number allows is free of clashes
    may_be_used : (times : ℕ) (least : Option ℕ) → times ≡ min (uses_in keys base) (2 ^ 128 - 1) → HasLeast base keys least → IsFreeAt times least → MayBeUsed (uses_in keys) base (uses_in keys base)
    may_be_used times None is none free = unlimited keys none (uses_in keys base)
    may_be_used times (Some least) is p free = (p.bound (uses_in keys base) (omega (arith, is, free, p.fits))).0 (omega (arith, is, free, p.fits))

    pub is_free : (u : Uses) → AreUsesOf base keys u → IsFreeAt u.times u.least → MayBeUsed (uses_in keys) base (uses_in keys base)
    is_free u p free = may_be_used u.times u.least p.times p.least free

  -- ---- the placeholder with which a base key is used too often

  module _ (before : List (List ℕ)) (key : List ℕ) (free : MayBeUsed (uses_in before) base (uses_in before base)) (number : ℕ) (least : IsLeastNumber base (before ++ key ∷ []) (suc number))
      (over : suc number < uses_in (before ++ key ∷ []) base) (low : suc number < 2 ^ 64 - 1) where
    abbrev all : List (List ℕ)
    all = before ++ key ∷ []

    -- the base key with the least number is used
    number_is_used : 0 < uses_in all (numbered base (suc number))
    number_is_used = elim (cases_lt 0 (uses_in all (numbered base (suc number)))) [
      | inl some ↦ some
      | inr none ↦
          let more : MayBeUsed (uses_in all) base (suc (suc number)) = λ count some. elim (cases_eq count number) [
            | inl same ↦ absurd (omega (arith, some, none, ap (λ n. uses_in all (numbered base (suc n))) same))
            | inr apart ↦
                let most : suc number ≤ suc count = (least.bound (suc number) least.fits).0 (omega arith) count some in
                omega (arith, apart, most)
          ] in
          absurd (omega (arith, (least.bound (suc (suc number)) (omega (arith, low))).1 more))
    ]

    own_clashes : key ≡ base → ClashesAfter before key base (suc number) true
    own_clashes own =
        let one : uses_in (key ∷ []) base ≡ 1 = used_once key base own in
        let none : uses_in (key ∷ []) (numbered base (suc number)) ≡ 0 = not_used key (numbered base (suc number)) (λ e. no_key_numbers_itself base number (sym own ∙ e)) in
        let used : 0 < uses_in before (numbered base (suc number)) = omega (arith, number_is_used, none, uses_in-append before (key ∷ []) (numbered base (suc number))) in
        let often : uses_in before base ≡ suc number = omega (arith, free number used, over, one, uses_in-append before (key ∷ []) base) in
        (own, ap (uses_in before) own ∙ often, used)

    numbered_clashes : (key ≡ base → ⊥) → ClashesAfter before key base (suc number) false
    numbered_clashes other =
        let none : uses_in (key ∷ []) base ≡ 0 = not_used key base other in
        let often : suc number < uses_in before base = omega (arith, over, none, uses_in-append before (key ∷ []) base) in
        let unused : uses_in before (numbered base (suc number)) ≡ 0 = elim (cases_lt 0 (uses_in before (numbered base (suc number)))) [
          | inl some ↦ absurd (omega (arith, free number some, often))
          | inr none_left ↦ omega (arith, none_left)
        ] in
        let it : key ≡ numbered base (suc number) = elim (cases_Bool (bytes_eq key (numbered base (suc number)))) [
          | inl same ↦ same_text key (numbered base (suc number)) same
          | inr apart ↦ absurd (omega (arith, number_is_used, unused, not_used key (numbered base (suc number)) (λ e. true≢false (sym (text_same key (numbered base (suc number)) e) ∙ apart)), uses_in-append before (key ∷ []) (numbered base (suc number))))
        ] in
        (it, ap (uses_in before) it ∙ unused, often)

    -- the flag tells which of the two comes first
    clashes_at : (is_own : Bool) → bytes_eq key base ≡ is_own → ClashesAfter before key base (suc number) is_own
    clashes_at true test = own_clashes (same_text key base test)
    clashes_at false test = numbered_clashes (λ e. true≢false (sym (text_same key base e) ∙ test))

  module _ (before : List (List ℕ)) (key : List ℕ) (is_own : Bool) (test : bytes_eq key base ≡ is_own) (free : MayBeUsed (uses_in before) base (uses_in before base)) where
    number_clashes : (number times : ℕ) → times ≡ min (uses_in (before ++ key ∷ []) base) (2 ^ 128 - 1) → IsLeastNumber base (before ++ key ∷ []) number → number < times → number < 2 ^ 64 - 1
        → (0 < number) × ClashesAfter before key base number is_own
    number_clashes zero times is least over low = absurd (omega (arith, (least.bound 1 (omega arith)).1 (λ count some. omega arith)))
    number_clashes (suc number) times is least over low = (omega arith, clashes_at before key free number least (omega (arith, over, is)) low is_own test)

    clashes_over : (times : ℕ) (least : Option ℕ) → times ≡ min (uses_in (before ++ key ∷ []) base) (2 ^ 128 - 1) → HasLeast base (before ++ key ∷ []) least → (IsFreeAt times least → ⊥)
        → unwrap_or least (2 ^ 64 - 1) < 2 ^ 64 - 1 → (0 < unwrap_or least (2 ^ 64 - 1)) × ClashesAfter before key base (unwrap_or least (2 ^ 64 - 1)) is_own
    clashes_over times None is none over low = absurd (over tt)
    clashes_over times (Some number) is least over low = number_clashes number times is least (elim (cases_lt number times) [
      | inl more ↦ more
      | inr le ↦ absurd (over le)
    ]) low

    pub clashes_after : (uses : Uses) → AreUsesOf base (before ++ key ∷ []) uses → (IsFreeAt uses.times uses.least → ⊥)
        → unwrap_or uses.least (2 ^ 64 - 1) < 2 ^ 64 - 1 → (0 < unwrap_or uses.least (2 ^ 64 - 1)) × ClashesAfter before key base (unwrap_or uses.least (2 ^ 64 - 1)) is_own
    clashes_after uses counted over low = clashes_over uses.times uses.least counted.times counted.least over low

-- ---- fewer uses

-- each base key is used at most as often
abbrev pub AreFewer : List (List ℕ) → List (List ℕ) → Type 0
AreFewer keys others = (key : List ℕ) → uses_in keys key ≤ uses_in others key

pub front_is_fewer : (keys front rest : List (List ℕ)) → keys ≡ front ++ rest → AreFewer front keys
front_is_fewer keys front rest is key = omega (arith, ap (λ ks. uses_in ks key) is, uses_in-append front rest key)

pub free_if_fewer : (keys others : List (List ℕ)) (base : List ℕ) → AreFewer keys others → MayBeUsed (uses_in others) base (uses_in others base) → MayBeUsed (uses_in keys) base (uses_in keys base)
free_if_fewer keys others base fewer free count some = omega (arith, fewer base, free count (omega (arith, some, fewer (numbered base (suc count)))))
