-- How often each value of a key comes.
use Rattle.std.specs.Prelude.{◌≡◌, ◌≢◌, ℕ, ◌+◌, ◌≤◌, ◌-◌, ◌^◌, List, [], ◌∷◌, ◌++◌, Option, Some, if◌then◌else◌, nat_lt, codes, map, flat_map, length, string_bytes, IsPermutation, take}
use Rattle.std.specs.BTreeMap.{get_by_text, btree_map_len}
use Rattle.std.specs.List.{AllAdjacentBelow}
use Rattle.csv.specs.Writing.{default_writer, row_text}
use Rattle.json.specs.Json.{string, number}
use Rattle.grok.specs.Numeral.{numeral}
use Rattle.groklog_answers.specs.Objects.{object_text}
use Rattle.groklog_answers.specs.declared.layout.OutputFormat.{OutputFormat}
use Rattle.groklog_answers.specs.declared.layout.OutputFormat.TheVariants.{Json, Pairs, Csv}
use Rattle.groklog_answers.specs.declared.value_counts.Counted.{Counted}
use Rattle.groklog_answers.specs.declared.value_counts.ValueCounts.{ValueCounts}

-- How often this value came, or `None` if it isn't counted.
abbrev pub count_of : ValueCounts → List ℕ → Option ℕ
count_of counts value = get_by_text counts.counts value

-- How many different values are counted, and how many are counted at most.
abbrev pub value_count : ValueCounts → ℕ
value_count counts = btree_map_len counts.counts

abbrev pub most_of : ValueCounts → ℕ
most_of counts = counts.most

-- How often values came that aren't counted.
abbrev pub others_of : ValueCounts → ℕ
others_of counts = counts.others

-- The number after this one. The greatest number of 64 bits stays as it is.
abbrev pub one_more : ℕ → ℕ
one_more n = if nat_lt n (2 ^ 64 - 1) then n + 1 else n

-- All counts are as they were.
pub record IsUnchanged (old new : ValueCounts) : Type 0 where
  pub counts : (value : List ℕ) → count_of new value ≡ count_of old value
  pub others : others_of new ≡ others_of old
  pub most : most_of new ≡ most_of old

-- The new counts have this count for the value, and all else is as it was.
pub record SetsCount (old new : ValueCounts) (value : List ℕ) (count : ℕ) : Type 0 where
  pub counted : count_of new value ≡ Some count
  pub same : (other : List ℕ) → other ≢ value → count_of new other ≡ count_of old other
  pub others : others_of new ≡ others_of old
  pub most : most_of new ≡ most_of old

-- One more value came that isn't counted.
pub record SkipsValue (old new : ValueCounts) : Type 0 where
  pub counts : (value : List ℕ) → count_of new value ≡ count_of old value
  pub others : others_of new ≡ one_more (others_of old)
  pub most : most_of new ≡ most_of old

-- The values that are counted, each with its count.
abbrev pub counted_values : ValueCounts → List (List ℕ × ℕ)
counted_values counts = map (λ entry. (string_bytes entry.0, entry.1)) counts.counts.entries

-- The value and the count of a `Counted`.
abbrev pub counted_pair : Counted → List ℕ × ℕ
counted_pair counted = (counted.value.now, counted.count)

-- These are the counted values, in an order in which no count is followed by a greater one.
pub record AreByCount (counts : ValueCounts) (pairs : List (List ℕ × ℕ)) : Type 0 where
  pub all : IsPermutation (counted_values counts) pairs
  pub order : AllAdjacentBelow (λ pair next. next.1 ≤ pair.1) pairs (length pairs)

-- These are the counted values that come first in such an order, at most `top` of them.
pub record AreCommonest (counts : ValueCounts) (top : ℕ) (pairs : List (List ℕ × ℕ)) : Type 0 where
  pub all : List (List ℕ × ℕ)
  pub sorted : AreByCount counts all
  pub first : pairs ≡ take top all

-- A value with its count as it is written: a JSON object on a line of its own.
abbrev pub counted_object : List ℕ × ℕ → List ℕ
counted_object pair = object_text ((codes "value", string pair.0) ∷ (codes "count", number (numeral pair.1)) ∷ []) ++ codes "\n"

-- A value with its count as a record of comma-separated values.
abbrev pub counted_record : List ℕ × ℕ → List ℕ
counted_record pair = row_text default_writer (pair.0 ∷ numeral pair.1 ∷ [])

-- The text that is written for these values with their counts.
abbrev pub counts_text : OutputFormat → List (List ℕ × ℕ) → List ℕ
counts_text Json pairs = flat_map counted_object pairs
counts_text Pairs pairs = flat_map counted_object pairs
counts_text Csv pairs = row_text default_writer (codes "value" ∷ codes "count" ∷ []) ++ flat_map counted_record pairs
