-- A numeral is a JSON number, and it is what `itoa` and `json` write for a `u64`.
use Rattle.std.proofs.Common.{◌≡◌, ℕ, zero, suc, ◌+◌, ◌<◌, ◌^◌, true, false, cond, ◌==◌, List, [], ◌∷◌, map, length, drop, get_or, Some, option_and_then, decimal, refl, ap, ◌∙◌, arith}
use Rattle.std.proofs.lemmas.Bool.{ne_eqb, le-leb, and_from}
use Rattle.std.proofs.lemmas.List.{drop_all}
use Rattle.std.proofs.lemmas.Int.Digits.{all_below_base_digits_of, first_digits_of}
use Rattle.std.specs.Int.Digits.{digits_of}
use Rattle.std.specs.List.{AllByRecursion, prefix_len}
use Rattle.std.specs.Char.{is_ascii_digit}
use Rattle.json.specs.Word.{head, after_whole, after_fraction, after_exponent, after_number}
use Rattle.json.specs.Print.{IsNumber}
use Rattle.grok.specs.Numeral.{numeral}
use Rattle.grok.proofs.Texts.NumeralsAreDecimal as grok

pub numeral_is_decimal : (n : ℕ) → n < 2 ^ 64 → numeral n ≡ decimal n
numeral_is_decimal = grok.numeral_is_decimal

-- The decimal digits of these numbers, each of which is less than 10.
abbrev shown : List ℕ → List ℕ
shown digits = map (λ digit. 48 + digit) digits

shown_is_digit : (d : ℕ) → d < 10 → is_ascii_digit (48 + d) ≡ true
shown_is_digit d low = and_from _ _ (le-leb 48 (48 + d) (omega arith)) (le-leb (48 + d) 57 (omega arith))

all_are_digits : (digits : List ℕ) → AllByRecursion (λ d. d < 10) digits → prefix_len is_ascii_digit (shown digits) ≡ length (shown digits)
all_are_digits [] low = refl
all_are_digits (d ∷ digits) low =
    ap (λ b. cond b (1 + prefix_len is_ascii_digit (shown digits)) 0) (shown_is_digit d low.0)
    ∙ omega (arith, all_are_digits digits low.1)

-- Digits of which the first isn't 0 are a whole number without a sign.
whole : (digits : List ℕ) → 0 < get_or digits 0 0 → AllByRecursion (λ d. d < 10) digits
    → (after_whole (shown digits) ≡ Some []) × ((head (shown digits) == 45) ≡ false)
whole [] first low = absurd (omega arith)
whole (d ∷ digits) first low =
    let all = all_are_digits (d ∷ digits) low in (
      rw (ne_eqb (48 + d) 48 (λ e. omega arith), all, ne_eqb (suc (length (shown digits))) 0 (λ e. omega arith))
          (ap Some (drop_all (length (shown digits)) (shown digits) (omega arith))),
      ne_eqb (48 + d) 45 (λ e. omega arith),
    )

pub numeral_is_number : (n : ℕ) → IsNumber (numeral n)
unfolding after_number
numeral_is_number zero = refl
numeral_is_number (suc n) =
    let w = whole (digits_of 10 (suc n)) (first_digits_of 10 (suc n) (omega arith) (omega arith)) (all_below_base_digits_of 10 (suc n) (omega arith)) in
    ap (λ o. option_and_then after_exponent (option_and_then after_fraction o))
    (ap (λ b. after_whole (cond b (drop 1 (numeral (suc n))) (numeral (suc n)))) w.1 ∙ w.0)
