-- What `regex` finds in a line, as the texts of groups.
use Rattle.std.specs.Prelude.{◌≡◌, ℕ, zero, suc, ◌≤◌, Bool, if◌then◌else◌, List, Option, Some, None, Vec, All, IfSome, map, length, option_map, slice_range}
use Rattle.std.specs.Borrow.{Bor}
use Rattle.std.specs.List.{range_with_len}
use Rattle.regex.specs.Patterns.{Re, Match, find_str, span, default_config}
use Rattle.regex.specs.Strings.{regex_config, regex_pattern, regex_names, IsReadFromSource}
use Rattle.regex.specs.Writes.{group_of}
use Rattle.regex.specs.declared.string.regex.Regex.{Regex}

-- the bytes of a borrowed text
abbrev pub text_of : Bor (List ℕ) → List ℕ
text_of part = part.now

-- the text of each group that took part, from group 0 on
abbrev pub capture_texts : List (Option (Bor (List ℕ))) → List (Option (List ℕ))
capture_texts captures = map (option_map text_of) captures

-- the part is the text of the line in some byte range
abbrev pub IsSliceOf : List ℕ → List ℕ → Type 0
IsSliceOf line part = (start : ℕ) × (end : ℕ) × (start ≤ end) × (end ≤ length line)
    × (part ≡ slice_range line start end)

-- the text of each group that took part is the text of the line in some byte range
abbrev pub AreSlicesOf : List ℕ → List (Option (List ℕ)) → Type 0
AreSlicesOf line texts = All (λ text. IfSome text (IsSliceOf line)) texts

-- what a search that writes to a list has found: the text of each group, if there is a match
abbrev pub texts_if : {A : Type 0} → Bool → Vec (Option (Bor (List ℕ))) A → Option (List (Option (List ℕ)))
texts_if is_match texts = if is_match then Some (capture_texts texts.items) else None

-- THE MATCH IN A LINE, or that there is none, as `finds` has it. Each of its `count` groups is listed, and the text of a
-- group that took part is a slice of the line.
pub record IsMatchIn (line : List ℕ) (finds : List ℕ → Option (List (Option (List ℕ)))) (count : ℕ)
    (found : Option (List (Option (List ℕ)))) : Type 0 where
  pub answer : found ≡ finds line
  pub all_groups : IfSome found (λ texts. length texts ≡ count)
  pub slices : IfSome found (AreSlicesOf line)

-- The regex was built with the defaults of `regex`: its pattern and its names are what the grammar reads in its text,
-- without flags or limits.
abbrev pub IsReadByDefault : Regex → Type 0
IsReadByDefault regex = (regex_config regex ≡ default_config) × IsReadFromSource regex

-- the text of a group that spans this range of the line, if it took part
abbrev pub text_at : List ℕ → (ℕ → Option (ℕ × ℕ)) → ℕ → Option (List ℕ)
text_at line span_at group = option_map (λ range. slice_range line range.0 range.1) (span_at group)

-- the texts of the first `count` groups
abbrev pub texts_at : List ℕ → (ℕ → Option (ℕ × ℕ)) → ℕ → List (Option (List ℕ))
texts_at line span_at count = map (text_at line span_at) (range_with_len 0 count)

-- the span of a group of the match, if it took part; group 0 is the whole match
abbrev pub span_of_group : Match → ℕ → Option (ℕ × ℕ)
span_of_group found zero = Some (span found)
span_of_group found (suc n) = group_of found (suc n)

-- the texts of the first `count` groups of the leftmost match in the line, if there is a match
abbrev pub captures_in : Re → ℕ → List ℕ → Option (List (Option (List ℕ)))
captures_in pattern count line = option_map (λ found. texts_at line (span_of_group found) count)
    (find_str pattern line 0)

-- the texts of all groups of the leftmost match of this regex in a line, if there is one
abbrev pub captures_by : Regex → List ℕ → Option (List (Option (List ℕ)))
captures_by regex = captures_in (regex_pattern regex) (length (regex_names regex))
