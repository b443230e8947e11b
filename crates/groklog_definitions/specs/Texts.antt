-- The words by which reports refer to patterns.
use Rattle.std.specs.Prelude.{ℕ, Bool, ◌==◌, ◌%◌, ◌||◌, List, ◌++◌, if◌then◌else◌, codes, decimal, map, string_bytes}
use Rattle.groklog_definitions.specs.declared.pattern_text.PatternText.{PatternText}

-- What an English ordinal number ends in: `1st`, `2nd`, `3rd` and `4th`, but `11th`, `12th` and `13th`.
abbrev pub ordinal_ending : ℕ → List ℕ
ordinal_ending number =
    if (number % 100 == 11) || (number % 100 == 12) || (number % 100 == 13) then codes "th"
    else if number % 10 == 1 then codes "st"
    else if number % 10 == 2 then codes "nd"
    else if number % 10 == 3 then codes "rd"
    else codes "th"

-- An ordinal number in digits.
abbrev pub ordinal_text : ℕ → List ℕ
ordinal_text number = decimal number ++ ordinal_ending number

-- The texts of patterns, each with whether only placeholders with an alias capture.
abbrev pub pattern_texts : List PatternText → List (List ℕ × Bool)
pattern_texts patterns = map (λ pattern. (string_bytes pattern.text, pattern.with_alias_only)) patterns
