-- How the value of a key is written in a JSON object.
use Rattle.std.specs.Prelude.{ℕ, List, [], ◌∷◌, ◌++◌, Bool, true, false, ◌&&◌, ◌||◌, ◌==◌, not, Option, Some, None, if◌then◌else◌, codes}
use Rattle.std.specs.List.{list_any, before_first, after_first}
use Rattle.std.specs.Char.{is_ascii_digit}
use Rattle.std.specs.Str.{bytes_eq}
use Rattle.json.specs.Word.{after_number}
use Rattle.json.specs.Json.{Json, string, number}

-- ---- JSON numbers

-- Whether a parser has consumed all of its text. The argument is the text that it left over, or
-- `None` if it failed.
abbrev pub is_all : Option (List ℕ) → Bool
is_all None = false
is_all (Some []) = true
is_all (Some (x ∷ xs)) = false

-- The text is a JSON number.
abbrev pub is_json_number : List ℕ → Bool
is_json_number text = is_all (after_number text)

-- The byte is `.`, `e` or `E`, which begin a fraction or an exponent.
abbrev pub begins_fraction_or_exponent : ℕ → Bool
begins_fraction_or_exponent b = (b == 46) || (b == 101) || (b == 69)

-- The text is a JSON number that has neither a fraction nor an exponent.
abbrev pub is_json_integer : List ℕ → Bool
is_json_integer text = is_json_number text && not (list_any begins_fraction_or_exponent text)

-- ---- other ways to write a number

-- The text begins with a digit.
abbrev pub begins_with_digit : List ℕ → Bool
begins_with_digit [] = false
begins_with_digit (b ∷ text) = is_ascii_digit b

-- The text begins with a point, and then a digit, as `.5`.
abbrev pub begins_with_fraction : List ℕ → Bool
begins_with_fraction [] = false
begins_with_fraction (b ∷ text) = (b == 46) && begins_with_digit text

-- The sign that a JSON number has in place of the sign of the text: a `-` stays.
abbrev pub json_sign : List ℕ → List ℕ
json_sign [] = []
json_sign (b ∷ text) = if b == 45 then codes "-" else []

-- The text begins with a digit, or with a point and a digit.
abbrev pub begins_with_number : List ℕ → Bool
begins_with_number text = begins_with_digit text || begins_with_fraction text

-- The text without a `+` that a number follows.
abbrev pub without_plus : List ℕ → List ℕ
without_plus [] = []
without_plus (b ∷ text) = if (b == 43) && begins_with_number text then text else b ∷ text

-- The text without its sign.
abbrev pub without_sign : List ℕ → List ℕ
without_sign [] = []
without_sign (b ∷ text) = if b == 45 then text else without_plus (b ∷ text)

-- The text without the zeros that it begins with, as far as a digit follows: `007` becomes `7`, and
-- `0.5` stays.
abbrev pub without_zeros : List ℕ → List ℕ
without_zeros [] = []
without_zeros (b ∷ text) = if (b == 48) && begins_with_digit text then without_zeros text else b ∷ text

-- A zero, if one is missing.
abbrev pub zero_if : Bool → List ℕ
zero_if is_missing = if is_missing then codes "0" else []

-- What comes before the first point, and what comes after it, if there is one.
abbrev pub parts_at_point : List ℕ → Option (List ℕ × List ℕ)
parts_at_point text =
    if list_any (λ b. b == 46) text then Some (before_first (λ b. b == 46) text, after_first (λ b. b == 46) text)
    else None

-- The text, or if it has these parts before and after a point, these with a digit after the point.
abbrev pub with_digit : List ℕ → Option (List ℕ × List ℕ) → List ℕ
with_digit text None = text
with_digit text (Some (whole, fraction)) = whole ++ (codes "." ++ (zero_if (not (begins_with_digit fraction)) ++ fraction))

-- The text with a digit after its first point: `5.` becomes `5.0`, and `5.e1` becomes `5.0e1`.
abbrev pub with_fraction : List ℕ → List ℕ
with_fraction text = with_digit text (parts_at_point text)

-- The digits with a digit on each side of the point: `.5` becomes `0.5`, and `5.` becomes `5.0`.
abbrev pub with_both_sides : List ℕ → List ℕ
with_both_sides digits = zero_if (begins_with_fraction digits) ++ with_fraction digits

-- The text as JSON would have it, if it is a number: `007` becomes `7`, `+2` becomes `2`, `-.5`
-- becomes `-0.5`, and `5.e1` becomes `5.0e1`. A text that is a JSON number stays as it is.
abbrev pub number_form : List ℕ → List ℕ
number_form text =
    if is_json_number text then text
    else json_sign text ++ with_both_sides (without_zeros (without_sign text))

-- ---- values

-- An extract asks for numbers if it is `int` or `float`.
abbrev pub asks_for_numbers : List ℕ → Bool
asks_for_numbers extract = bytes_eq extract (codes "int") || bytes_eq extract (codes "float")

-- A text is written as a number if the extract of its key is `int` and it is an integer, or if that
-- extract is `float` and it is any number. The text is in the form of JSON.
abbrev pub is_written_as_number : Option (List ℕ) → List ℕ → Bool
is_written_as_number None form = false
is_written_as_number (Some extract) form =
    (bytes_eq extract (codes "int") && is_json_integer form)
    || (bytes_eq extract (codes "float") && is_json_number form)

-- The value as it is written: a number in the form of JSON, or a string.
abbrev pub json_value : Option (List ℕ) → List ℕ → Json
json_value extract value =
    if is_written_as_number extract (number_form value) then number (number_form value) else string value
