-- The numbers below n have together as many decimal digits as n, and by how much n is greater than 10, than 100, and
-- so on, add up to.
use Rattle.std.proofs.Common.{◌≡◌, ℕ, zero, suc, ◌+◌, ◌-◌, ◌*◌, ◌/◌, ◌%◌, ◌^◌, ◌<◌, ◌≤◌, cond, [], ◌∷◌, length, refl, sym, ◌∙◌, ap, subst, inl, inr, arith, length-append, lit≤}
use Rattle.std.proofs.lemmas.Bool.{cases_lt, le-leb, lt-leb}
use Rattle.std.specs.Prelude.{nat_le}
use Rattle.grok.specs.Numeral.{numeral}
use Rattle.grok.specs.steps.Sizes.{digits_from}
use Rattle.grok.proofs.Texts.NumeralsAreDecimal.{numeral_digit, numeral_step}

-- the powers of ten
abbrev pub tens : ℕ → ℕ
tens zero = 1
tens (suc k) = tens k * 10

-- by how much a count is greater than each of the first powers of ten, added up
abbrev pub above : ℕ → ℕ → ℕ
above zero n = 0
above (suc k) n = above k n + (n - tens (suc k))

-- 1 if the number is at least that power, and else 0
abbrev reaches : ℕ → ℕ → ℕ
reaches p n = cond (nat_le p n) 1 0

-- how many of the first powers of ten are no greater than the number
abbrev powers : ℕ → ℕ → ℕ
powers zero n = 0
powers (suc k) n = powers k n + reaches (tens (suc k)) n

reaches_yes : (p n : ℕ) → p ≤ n → reaches p n ≡ 1
reaches_yes p n h = ap (λ b. cond {A = ℕ} b 1 0) (le-leb p n h)

reaches_no : (p n : ℕ) → n < p → reaches p n ≡ 0
reaches_no p n h = ap (λ b. cond {A = ℕ} b 1 0) (lt-leb p n h)

reaches_tenth : (p n : ℕ) → reaches (p * 10) n ≡ reaches p (n / 10)
reaches_tenth p n = elim (cases_lt n (p * 10)) [
  | inl low ↦ reaches_no (p * 10) n low ∙ sym (reaches_no p (n / 10) (omega arith))
  | inr high ↦ reaches_yes (p * 10) n high ∙ sym (reaches_yes p (n / 10) (omega arith))
]

powers_tenth : (k n : ℕ) → powers (suc k) n ≡ reaches 10 n + powers k (n / 10)
powers_tenth zero n = omega arith
powers_tenth (suc k) n = omega (arith, powers_tenth k n, reaches_tenth (tens (suc k)) n)

powers_low : (k n : ℕ) → n < 10 → powers k n ≡ 0
powers_low zero n low = refl
powers_low (suc k) n low = powers_tenth k n ∙ omega (arith, reaches_no 10 n low, powers_low k (n / 10) (omega arith))

length-numeral : (k n : ℕ) → n < tens (suc k) → length (numeral n) ≡ 1 + powers k n
length-numeral zero n low = ap length (numeral_digit n (omega arith))
length-numeral (suc k) n low = elim (cases_lt n 10) [
  | inl small ↦ ap length (numeral_digit n small) ∙ ap (λ m. 1 + m) (sym (powers_low (suc k) n small))
  | inr big ↦
      let tenth : n / 10 < tens (suc k) = omega arith in
      ap length (numeral_step n big) ∙ omega (arith, length-append (numeral (n / 10)) ((48 + n % 10) ∷ []), length-numeral k (n / 10) tenth, powers_tenth k n, reaches_yes 10 n big)
]

digits_from-suc : (first count : ℕ) → digits_from first (suc count) ≡ digits_from first count + length (numeral (first + count))
digits_from-suc first zero = omega (arith, ap (λ n. length (numeral n)) (add_none first))
  where
    add_none : (n : ℕ) → n + 0 ≡ n
    add_none n = omega arith
digits_from-suc first (suc count) = omega (arith, digits_from-suc (suc first) count, ap (λ n. length (numeral n)) (moved first count))
  where
    moved : (a b : ℕ) → suc a + b ≡ a + suc b
    moved a b = omega arith

above-suc : (k n : ℕ) → above k (suc n) ≡ above k n + powers k n
above-suc zero n = refl
above-suc (suc k) n = elim (cases_lt n (tens (suc k))) [
  | inl low ↦ omega (arith, above-suc k n, reaches_no (tens (suc k)) n low)
  | inr high ↦ omega (arith, above-suc k n, reaches_yes (tens (suc k)) n high)
]

-- the count, and for each power of ten how much greater the count is
pub digits_above : (k n : ℕ) → n ≤ tens (suc k) → digits_from 0 n ≡ n + above k n
digits_above k zero low = none k
  where
    none : (k : ℕ) → 0 ≡ 0 + above k 0
    none zero = refl
    none (suc k) = omega (arith, none k)
digits_above k (suc n) low =
    omega (arith, digits_from-suc 0 n, digits_above k n (omega arith), above-suc k n, length-numeral k n (omega arith), ap (λ m. length (numeral m)) (none n))
  where
    none : (n : ℕ) → 0 + n ≡ n
    none n = omega arith

-- each number has at least one digit
one_digit_at_least : (n : ℕ) → 1 ≤ length (numeral n)
one_digit_at_least n = elim (cases_lt n 10) [
  | inl small ↦ omega (arith, ap length (numeral_digit n small))
  | inr big ↦ omega (arith, ap length (numeral_step n big), length-append (numeral (n / 10)) ((48 + n % 10) ∷ []))
]

pub digits_least : (first n : ℕ) → n ≤ digits_from first n
digits_least first zero = omega arith
digits_least first (suc n) = omega (arith, one_digit_at_least first, digits_least (suc first) n)

pub tens_fit : (k : ℕ) → k ≤ 19 → tens k ≤ 10 ^ 19
tens_fit k low = up (19 - k) k (omega arith)
  where
    up : (d k : ℕ) → d + k ≡ 19 → tens k ≤ 10 ^ 19
    up zero k e = let is : k ≡ 19 = omega arith in subst (λ n. tens n ≤ 10 ^ 19) (sym is) (lit≤ tt)
    up (suc d) k e = omega (arith, up d (suc k) (omega arith))
