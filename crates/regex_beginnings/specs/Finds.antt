-- What `regex` finds in a line by the regular expression with some text.
use Rattle.std.specs.Prelude.{◌≡◌, ◌≢◌, ◌⊎◌, ℕ, Bool, true, false, List, Option, Some, None, MatchOption, is_some}
use Rattle.regex.specs.Patterns.{Match, find_str, span, default_config}
use Rattle.regex.specs.Locations.{AreLocationsOf}
use Rattle.regex.specs.Strings.{regex_config, regex_pattern, regex_source, IsReadFromSource, IsDefaultFailure}
use Rattle.regex.specs.declared.error.Error.{Error}
use Rattle.regex.specs.declared.error.Error.TheVariants.{Internal, OutOfMemory}
use Rattle.regex.specs.declared.string.regex.Regex.{Regex}
use Rattle.regex_beginnings.specs.declared.compiled.Found.{Found}

-- The regex was built with the default settings of `regex`: its pattern is what its text means in the syntax of `regex`,
-- without flags or limits.
abbrev pub IsReadByDefault : Regex → Type 0
IsReadByDefault regex = (regex_config regex ≡ default_config) × IsReadFromSource regex

-- `regex` may refuse the text: its own contract allows an error for it other than that memory ran out.
abbrev pub IsRefused : List ℕ → Type 0
IsRefused text = (error : Error) × IsDefaultFailure text error × (error ≢ OutOfMemory) × (error ≢ Internal)

-- The regex of this text, as `regex` reads it by default, finds something in the line if `finds` is true, and nothing if it
-- is false.
abbrev pub IsDecided : List ℕ → List ℕ → Bool → Type 0
IsDecided text line finds = (regex : Regex) × (regex_source regex ≡ text) × ∥ IsReadByDefault regex ∥₁
    × (is_some (find_str (regex_pattern regex) line 0) ≡ finds)

-- THE TEXT FINDS SOMETHING in the line.
abbrev pub FindsIn : List ℕ → List ℕ → Type 0
FindsIn text line = IsDecided text line true

-- THE TEXT FINDS NOTHING in the line, or is no regular expression that `regex` takes.
abbrev pub FindsNothingIn : List ℕ → List ℕ → Type 0
FindsNothingIn text line = IsRefused text ⊎ IsDecided text line false

-- Whether the text finds something in the line: it does if the answer is true, and doesn't if it is false.
abbrev pub IsAnswer : List ℕ → List ℕ → Bool → Type 0
IsAnswer text line true = FindsIn text line
IsAnswer text line false = FindsNothingIn text line

-- The first match of the regex in the line is `found`: where it ends, and the span of each group. It is `None` if there is
-- no match.
abbrev pub IsMatchOf : Regex → List ℕ → Option Found → Type 0
IsMatchOf regex line found = MatchOption found (find_str (regex_pattern regex) line 0 ≡ None)
    (λ found. (first : Match) × (find_str (regex_pattern regex) line 0 ≡ Some first)
    × (found.end ≡ (span first).1) × AreLocationsOf first found.locations)

-- The first match of the regex of this text in the line. It is `None` too if `regex` refuses the text.
abbrev pub IsFirstMatchIn : List ℕ → List ℕ → Option Found → Type 0
IsFirstMatchIn text line found = (IsRefused text × (found ≡ None))
    ⊎ ((regex : Regex) × (regex_source regex ≡ text) × ∥ IsReadByDefault regex ∥₁ × IsMatchOf regex line found)
