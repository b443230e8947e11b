-- What is counted of a line.
use Rattle.std.proofs.Common.{◌≡◌, ℕ, ◌<◌, ◌≤◌, List, [], ◌∷◌, length, Option, Some, None, Result, Ok, Err, OnOk, Bor, get_or, refl, arith}
use Rattle.groklog_answers.specs.declared.layout.OutputFormat.{OutputFormat}
use Rattle.groklog_answers.specs.declared.value_counts.ValueCounts.{ValueCounts}
use Rattle.groklog_answers.specs.Patterns.{MatchText}
use Rattle.groklog_answers.specs.ValueCounts.{count_of, value_count, most_of, one_more, SetsCount, SkipsValue}
use Rattle.groklog_answers.specs.PlanViews.{names_of}
use Rattle.groklog_answers.specs.KeyCounts.{found_value, list_in, counted_in, CountsValue}

-- The clauses of counting a value, of a value that was found.
pub some_is_counted : {E : Type 0} (r : Result (Unit {0}) E) (old new : ValueCounts) (value : List ℕ) (found : Option (List ℕ)) → found ≡ Some value
    → OnOk r ((count : ℕ) → count_of old value ≡ Some count → SetsCount old new value (one_more count))
    → OnOk r (count_of old value ≡ None → value_count old < most_of old → SetsCount old new value 1)
    → OnOk r (count_of old value ≡ None → most_of old ≤ value_count old → SkipsValue old new) → OnOk r (CountsValue old new found)
some_is_counted (Ok done) old new value found is again first full = rw is (record { again = again; first = first; full = full })
some_is_counted (Err error) old new value found is again first full = tt

-- What is counted of one key is its value.
pub value_is_counted : (format : OutputFormat) (found : Option MatchText) (keys : List (Bor (List ℕ))) (other : Bor (List ℕ)) → 1 ≤ length keys → length keys < 2
    → found_value found (get_or keys 0 other).now ≡ counted_in format found (names_of keys)
value_is_counted format found [] other least most = absurd (omega (arith, least))
value_is_counted format found (key ∷ []) other least most = refl
value_is_counted format found (key ∷ next ∷ more) other least most = absurd (omega (arith, most))

-- What is counted of no key, or of several, is the text of their values.
pub list_is_counted : (format : OutputFormat) (found : Option MatchText) (keys : List (Bor (List ℕ))) → (length keys ≡ 1 → ⊥)
    → list_in format found (names_of keys) ≡ counted_in format found (names_of keys)
list_is_counted format found [] several = refl
list_is_counted format found (key ∷ []) several = absurd (several refl)
list_is_counted format found (key ∷ next ∷ more) several = refl
