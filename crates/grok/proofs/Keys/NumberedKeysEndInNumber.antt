-- A key ends in a number from 1 up in brackets exactly if it is a numbered key.
use Rattle.std.proofs.Common.{length, ◌≡◌, ℕ, suc, ◌+◌, ◌-◌, ◌*◌, ◌/◌, ◌%◌, ◌<◌, ◌≤◌, Bool, true, false, List, [], ◌∷◌, ◌++◌, map, get_or, refl, sym, ◌∙◌, ap, inl, inr, arith, append_assoc, append-nil, ap₂, cond, nat_le}
use Rattle.std.specs.Prelude.{◌==◌, not, ◌&&◌, ◌||◌}
use Rattle.std.specs.Bool.{Decides}
use Rattle.std.specs.Char.{is_ascii_digit}
use Rattle.std.specs.List.{AllByRecursion, list_all}
use Rattle.std.specs.Int.Digits.{digits_of, number_from_digits_after}
use Rattle.std.proofs.lemmas.Bool.{true≢false, false_from_ne_true, ne_eqb, eqb-true, eqb-false, not-true, and_parts, or_cases, leb-true}
use Rattle.std.proofs.lemmas.Bool.Decides.{nat_tests}
use Rattle.std.proofs.lemmas.List.{append_cancel_right}
use Rattle.std.proofs.lemmas.Int.Digits.{all_below_base_digits_of, first_digits_of, digits_of_step}
use Rattle.grok.specs.Tree.{is_absent}
use Rattle.grok.specs.Numeral.{numeral}
use Rattle.grok.specs.Keys.{numbered, ends_digits, ends_number, ends_in_number, EndsInNumberWhereNumbered}

regroup : (key : List ℕ) (count : ℕ) → numbered key (suc count) ≡ key ++ (91 ∷ (numeral (suc count) ++ 93 ∷ []))
regroup key count = simp append_assoc

digit_is : (d : ℕ) → d < 10 → is_ascii_digit (48 + d) ≡ true
digit_is d low = grind (arith, nat_tests)

digits_end : (ds : List ℕ) → AllByRecursion (λ d. d < 10) ds → ends_digits (map (λ digit. 48 + digit) ds ++ 93 ∷ []) ≡ true
digits_end [] h = refl
digits_end (d ∷ ds) h =
    let low : d < 10 = h.0 in
    let other : ((48 + d) == 93) ≡ false = ne_eqb (48 + d) 93 (λ e. omega arith) in
    rw (other, digit_is d low) (digits_end ds h.1)

number_end : (ds : List ℕ) → AllByRecursion (λ d. d < 10) ds → 0 < get_or ds 0 0 → ends_number (map (λ digit. 48 + digit) ds ++ 93 ∷ []) ≡ true
number_end [] h first = absurd (omega arith)
number_end (d ∷ ds) h first =
    let low : d < 10 = h.0 in
    let other : ((48 + d) == 48) ≡ false = ne_eqb (48 + d) 48 (λ e. omega arith) in
    rw (other, digit_is d low) (digits_end ds h.1)

number_after_bracket : (front rest : List ℕ) → ends_number rest ≡ true → ends_in_number (front ++ 91 ∷ rest) ≡ true
number_after_bracket [] rest h = rw h refl
number_after_bracket (c ∷ front) rest h = rw (number_after_bracket front rest h) (or_true (c == 91 && ends_number (front ++ 91 ∷ rest)))
  where
    or_true : (b : Bool) → (b || true) ≡ true
    or_true true = refl
    or_true false = refl

numeral_end : (count : ℕ) → ends_number (numeral (suc count) ++ 93 ∷ []) ≡ true
numeral_end count = number_end (digits_of 10 (suc count)) (all_below_base_digits_of 10 (suc count) (omega arith)) (first_digits_of 10 (suc count) (omega arith) (omega arith))

pub numbered_ends : (key : List ℕ) (count : ℕ) → ends_in_number (numbered key (suc count)) ≡ true
numbered_ends key count = ap ends_in_number (regroup key count) ∙ number_after_bracket key (numeral (suc count) ++ 93 ∷ []) (numeral_end count)

-- ---- and back
of_digit : (c : ℕ) → is_ascii_digit c ≡ true → (d : ℕ) × (d < 10) × (c ≡ 48 + d)
of_digit c h =
    let tests = and_parts (nat_le 48 c) (nat_le c 57) h in
    let low : 48 ≤ c = leb-true 48 c tests.0 in
    let high : c ≤ 57 = leb-true c 57 tests.1 in
    (c - 48, omega arith, omega arith)

-- the digits of a number, if its first digits were read as another number
digits_read_on : (front : List ℕ) (n : ℕ) (ds : List ℕ) → 0 < n → digits_of 10 n ≡ front → AllByRecursion (λ d. d < 10) ds → digits_of 10 (number_from_digits_after 10 n ds) ≡ front ++ ds
digits_read_on front n [] some is low = is ∙ sym (append-nil front)
digits_read_on front n (d ∷ ds) some is low =
    let small : d < 10 = low.0 in
    let whole : (n * 10 + d) / 10 ≡ n = omega arith in
    let last : (n * 10 + d) % 10 ≡ d = omega arith in
    let step : digits_of 10 (n * 10 + d) ≡ front ++ (d ∷ []) = digits_of_step 10 (n * 10 + d) (omega arith) (omega arith) ∙ rw (whole, last) (ap (λ ds. ds ++ (d ∷ [])) is) in
    digits_read_on (front ++ (d ∷ [])) (n * 10 + d) ds (omega arith) step low.1 ∙ append_assoc front (d ∷ []) ds

some_after : (n : ℕ) (ds : List ℕ) → 0 < n → 0 < number_from_digits_after 10 n ds
some_after n [] some = some
some_after n (d ∷ ds) some = some_after (n * 10 + d) ds (omega arith)

digits_are : (d : ℕ) (ds : List ℕ) → 0 < d → d < 10 → AllByRecursion (λ d. d < 10) ds → (count : ℕ) × (digits_of 10 (suc count) ≡ d ∷ ds)
digits_are d ds some small low =
    let n = number_from_digits_after 10 d ds in
    let none : d / 10 ≡ 0 = omega arith in
    let own : d % 10 ≡ d = omega arith in
    let one : digits_of 10 d ≡ d ∷ [] = digits_of_step 10 d (omega arith) some ∙ rw (none, own) refl in
    let positive : 0 < n = some_after d ds some in
    let next : suc (n - 1) ≡ n = omega arith in
    (n - 1, ap (digits_of 10) next ∙ digits_read_on (d ∷ []) d ds some one low)

-- what comes before a last `]`
of_digits : (cs : List ℕ) → ends_digits cs ≡ true → (ds : List ℕ) × AllByRecursion (λ d. d < 10) ds × (cs ≡ map (λ digit. 48 + digit) ds ++ 93 ∷ [])
of_digits [] h = cc
of_digits (c ∷ cs) h = go (of_digits cs) (c == 93) refl h
  where
    go : (ends_digits cs ≡ true → (ds : List ℕ) × AllByRecursion (λ d. d < 10) ds × (cs ≡ map (λ digit. 48 + digit) ds ++ 93 ∷ [])) → (b : Bool) → (c == 93) ≡ b → cond b (is_absent cs) (is_ascii_digit c && ends_digits cs) ≡ true → (ds : List ℕ) × AllByRecursion (λ d. d < 10) ds × (c ∷ cs ≡ map (λ digit. 48 + digit) ds ++ 93 ∷ [])
    go rest_of true is over = ([], tt, ap₂ (λ x xs. x ∷ xs) (eqb-true c 93 is) (nothing cs over))
      where
        nothing : (xs : List ℕ) → is_absent xs ≡ true → xs ≡ []
        nothing [] e = refl
        nothing (x ∷ xs) e = cc
    go rest_of false is more =
        let parts = and_parts (is_ascii_digit c) (ends_digits cs) more in
        let (d, small, first) = of_digit c parts.0 in
        let (ds, low, rest) = rest_of parts.1 in
        (d ∷ ds, (small, low), ap₂ (λ x xs. x ∷ xs) first rest)

of_number : (cs : List ℕ) → ends_number cs ≡ true → (count : ℕ) × (cs ≡ numeral (suc count) ++ 93 ∷ [])
of_number [] h = cc
of_number (c ∷ cs) h =
    let parts = and_parts (not (c == 48)) (is_ascii_digit c && ends_digits cs) h in
    let more = and_parts (is_ascii_digit c) (ends_digits cs) parts.1 in
    let (d, small, first) = of_digit c more.0 in
    let (ds, low, rest) = of_digits cs more.1 in
    let other : c ≡ 48 → ⊥ = eqb-false c 48 (not-true (c == 48) parts.0) in
    let some : 0 < d = omega arith in
    let (count, is) = digits_are d ds some small low in
    (count, ap₂ (λ x xs. x ∷ xs) first rest ∙ ap (λ xs. map (λ digit. 48 + digit) xs ++ 93 ∷ []) (sym is))

of_ending : (key : List ℕ) → ends_in_number key ≡ true → (front : List ℕ) × (count : ℕ) × (key ≡ numbered front (suc count))
of_ending [] h = cc
of_ending (c ∷ cs) h = elim (or_cases (c == 91 && ends_number cs) (ends_in_number cs) h) [
  | inl here ↦
      let parts = and_parts (c == 91) (ends_number cs) here in
      let (count, is) = of_number cs parts.1 in
      ([], count, ap₂ (λ x xs. x ∷ xs) (eqb-true c 91 parts.0) is ∙ sym (regroup [] count))
  | inr later ↦
      let (front, count, is) = of_ending cs later in
      (c ∷ front, count, ap (λ xs. c ∷ xs) (is ∙ regroup front count) ∙ sym (regroup (c ∷ front) count))
]

pub ends_in_number_where_numbered : EndsInNumberWhereNumbered
ends_in_number_where_numbered key = (of_ending key, λ (front, count, is). ap ends_in_number is ∙ numbered_ends front count)

pub not_numbered : (key : List ℕ) → ((front : List ℕ) (count : ℕ) → key ≡ numbered front (suc count) → ⊥) → ends_in_number key ≡ false
not_numbered key none = false_from_ne_true (ends_in_number key) (λ ends. let (front, count, is) = of_ending key ends in none front count is)

-- ---- a number from 1 up
digits_alone : (cs : List ℕ) → ends_digits (cs ++ 93 ∷ []) ≡ list_all is_ascii_digit cs
digits_alone [] = refl
digits_alone (c ∷ cs) = go (c == 93) refl (digits_alone cs)
  where
    some : (xs : List ℕ) → is_absent (xs ++ 93 ∷ []) ≡ false
    some [] = refl
    some (x ∷ xs) = refl

    go : (b : Bool) → (c == 93) ≡ b → ends_digits (cs ++ 93 ∷ []) ≡ list_all is_ascii_digit cs → ends_digits (c ∷ (cs ++ 93 ∷ [])) ≡ is_ascii_digit c && list_all is_ascii_digit cs
    go true is rest = rw (eqb-true c 93 is) (some cs)
    go false is rest = rw (is, rest) refl

-- it begins with another digit than 0
pub none_first : (text : List ℕ) → length text ≡ 0 → (count : ℕ) → text ≡ numeral (suc count) → ⊥
none_first [] none count is = true≢false (sym (numeral_end count) ∙ ap (λ ds. ends_number (ds ++ 93 ∷ [])) (sym is))
none_first (c ∷ cs) none count is = absurd (omega arith)

pub zero_first : (text : List ℕ) → get_or text 0 0 ≡ 48 → (count : ℕ) → text ≡ numeral (suc count) → ⊥
zero_first [] zero count is = absurd (omega arith)
zero_first (c ∷ cs) zero count is =
    let parts = and_parts (not (c == 48)) (is_ascii_digit c && ends_digits (cs ++ 93 ∷ [])) (ap (λ ds. ends_number (ds ++ 93 ∷ [])) is ∙ numeral_end count) in
    eqb-false c 48 (not-true (c == 48) parts.0) zero

pub other_first : (text : List ℕ) (r : Bool) → 0 < length text → (get_or text 0 0 ≡ 48 → ⊥) → r ≡ list_all is_ascii_digit text → Decides r ((count : ℕ) × (text ≡ numeral (suc count)))
other_first [] r some other all = absurd (omega arith)
other_first (c ∷ cs) r some other all = (of_text, λ (count, e). is ∙ ap (λ ds. ends_number (ds ++ 93 ∷ [])) e ∙ numeral_end count)
  where
    is : r ≡ ends_number (c ∷ (cs ++ 93 ∷ []))
    is = all ∙ rw (ne_eqb c 48 other, digits_alone cs) refl

    of_text : r ≡ true → (count : ℕ) × (c ∷ cs ≡ numeral (suc count))
    of_text holds =
        let (count, same) = of_number (c ∷ (cs ++ 93 ∷ [])) (sym is ∙ holds) in
        (count, append_cancel_right (c ∷ cs) (numeral (suc count)) (93 ∷ []) same)
