-- What a line adds to the counts of the values of keys.
use Rattle.std.specs.Prelude.{◌≡◌, ℕ, ◌<◌, ◌≤◌, List, [], ◌∷◌, Option, Some, None, option_and_then, option_map}
use Rattle.groklog_answers.specs.ValueLists.{values_by, list_text, lists_text}
use Rattle.groklog_answers.specs.declared.layout.OutputFormat.{OutputFormat}
use Rattle.groklog_answers.specs.Patterns.{MatchText}
use Rattle.groklog_answers.specs.ValueCounts.{counts_text, count_of, value_count, most_of, one_more, IsUnchanged, SetsCount, SkipsValue}
use Rattle.groklog_answers.specs.declared.value_counts.ValueCounts.{ValueCounts}

-- The value of a key in a match, if there is a match, and the key has a value in it.
abbrev pub found_value : Option MatchText → List ℕ → Option (List ℕ)
found_value found key = option_and_then (λ found. found.value key) found

-- The text of the values that these keys have in a match, if there is a match, and each of them has a value in it.
abbrev pub list_in : OutputFormat → Option MatchText → List (List ℕ) → Option (List ℕ)
list_in format found keys = option_map (list_text format) (option_and_then (λ found. values_by found.value keys) found)

-- What is counted of a match: the value of the key, or the text of the values if there are several keys.
abbrev pub counted_in : OutputFormat → Option MatchText → List (List ℕ) → Option (List ℕ)
counted_in format found [] = list_in format found []
counted_in format found (key ∷ []) = found_value found key
counted_in format found (key ∷ next ∷ more) = list_in format found (key ∷ next ∷ more)

-- What is written of the counts of one key, or of several.
abbrev pub keys_text : OutputFormat → List (List ℕ) → List (List ℕ × ℕ) → List ℕ
keys_text format [] pairs = lists_text format [] pairs
keys_text format (key ∷ []) pairs = counts_text format pairs
keys_text format (key ∷ next ∷ more) pairs = lists_text format (key ∷ next ∷ more) pairs

-- A value came once more. If it is a new one, and there is no room for it, it is counted with others.
pub record CountsOnce (old new : ValueCounts) (value : List ℕ) : Type 0 where
  pub again : (count : ℕ) → count_of old value ≡ Some count → SetsCount old new value (one_more count)
  pub first : count_of old value ≡ None → value_count old < most_of old → SetsCount old new value 1
  pub full : count_of old value ≡ None → most_of old ≤ value_count old → SkipsValue old new

-- The value came once more if there is one, and otherwise nothing has changed.
abbrev pub CountsValue : ValueCounts → ValueCounts → Option (List ℕ) → Type 0
CountsValue old new None = IsUnchanged old new
CountsValue old new (Some value) = CountsOnce old new value
