-- The six colours in which keys are shown.
use Rattle.std.specs.Prelude.{ℕ, ◌%◌, ◌==◌, List, [], ◌∷◌, if◌then◌else◌}

-- The digit of the colour of a key, as terminals number their colours: cyan (6), green (2), yellow (3),
-- magenta (5), blue (4) and red (1), and then cyan again.
abbrev pub digit_of_rest : ℕ → ℕ
digit_of_rest rest = if rest == 0 then 54 else if rest == 1 then 50 else if rest == 2 then 51
    else if rest == 3 then 53 else if rest == 4 then 52 else 49

abbrev pub colour_digit : ℕ → ℕ
colour_digit key = digit_of_rest (key % 6)

-- The code after which a terminal writes in the colour of a key: an escape character, `[3`, the digit
-- and `m`.
abbrev pub colour_code : ℕ → List ℕ
colour_code key = 27 ∷ 91 ∷ 51 ∷ colour_digit key ∷ 109 ∷ []
