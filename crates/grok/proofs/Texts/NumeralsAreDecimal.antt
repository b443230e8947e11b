-- A numeral is the decimal form of its number, of any length.
use Rattle.std.proofs.Common.{◌≡◌, ℕ, zero, suc, ◌+◌, ◌/◌, ◌%◌, ◌^◌, ◌<◌, ◌≤◌, List, [], ◌∷◌, ◌++◌, map, refl, sym, ◌∙◌, ap, arith}
use Rattle.std.specs.Prelude.{decimal}
use Rattle.std.specs.Int.Digits.{digits_of}
use Rattle.std.proofs.lemmas.Int.Digits.{digits_of_step}
use Rattle.std.proofs.lemmas.Fmt.{decimal_by_steps}
use Rattle.grok.specs.Numeral.{numeral}

map_push : (f : ℕ → ℕ) (xs : List ℕ) (y : ℕ) → map f (xs ++ (y ∷ [])) ≡ map f xs ++ (f y ∷ [])
map_push f [] y = refl
map_push f (x ∷ xs) y = ap (λ zs. f x ∷ zs) (map_push f xs y)

-- the digits of a number that isn't 0
numeral_pos : (n : ℕ) → 0 < n → numeral n ≡ map (λ digit. 48 + digit) (digits_of 10 n)
numeral_pos zero pos = absurd (omega arith)
numeral_pos (suc n) pos = refl

pub numeral_digit : (n : ℕ) → n < 10 → numeral n ≡ (48 + n) ∷ []
numeral_digit zero low = refl
numeral_digit (suc n) low =
    let none : suc n / 10 ≡ 0 = omega arith in
    let own : suc n % 10 ≡ suc n = omega arith in
    ap (map (λ digit. 48 + digit)) (digits_of_step 10 (suc n) (omega arith) (omega arith)) ∙ rw (none, own) refl

pub numeral_step : (n : ℕ) → 10 ≤ n → numeral n ≡ numeral (n / 10) ++ ((48 + n % 10) ∷ [])
numeral_step n big =
    numeral_pos n (omega arith) ∙ ap (map (λ digit. 48 + digit)) (digits_of_step 10 n (omega arith) (omega arith)) ∙ map_push (λ digit. 48 + digit) (digits_of 10 (n / 10)) (n % 10)
    ∙ ap (λ ds. ds ++ ((48 + n % 10) ∷ [])) (sym (numeral_pos (n / 10) (omega arith)))

-- for numbers that std's `decimal` can write, it is the same
pub numeral_is_decimal : (n : ℕ) → n < 2 ^ 64 → numeral n ≡ decimal n
numeral_is_decimal n low =
    decimal_by_steps (λ k ds. numeral k ≡ ds) numeral_digit (λ k ds big h. numeral_step k big ∙ ap (λ xs. xs ++ ((48 + k % 10) ∷ [])) h) n low
