-- Numbers in decimal.
use Rattle.std.specs.Prelude.{ℕ, zero, suc, ◌+◌, List, codes, map}
use Rattle.std.specs.Int.Digits.{digits_of}
use Rattle.grok_parser.specs.Ascii.{digit_zero}

-- A number in decimal, of any length. (std's `decimal` has at most 64 digits, and a tree may have more
-- placeholders than that can count.)
abbrev pub numeral : ℕ → List ℕ
numeral zero = codes "0"
numeral (suc n) = map (λ digit. digit_zero + digit) (digits_of 10 (suc n))
