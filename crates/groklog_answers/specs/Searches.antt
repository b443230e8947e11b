-- What contracts see of the patterns of a run, and of the match that one of them has in a line.
use Rattle.std.specs.Prelude.{◌≡◌, ℕ, ◌+◌, List, Option, Some, None, Result, OnOk, OnErr, map, length, set, get_or, is_some, if◌then◌else◌}
use Rattle.std.specs.List.{position_from}
use Rattle.grok.specs.Engines.{engine_regex}
use Rattle.grok.specs.LineSearches.{HasMatchIn}
use Rattle.grok.specs.Strings.{regex_names}
use Rattle.groklog_answers.specs.Patterns.{PatternText, match_of, first_match}
use Rattle.groklog_answers.specs.Views.{finds_of, searched}
use Rattle.groklog_answers.specs.declared.searches.Search.{Search}
use Rattle.groklog_answers.specs.declared.searches.Searches.{Searches}

-- The patterns, in the order in which they are tried.
abbrev pub patterns_in : Searches → List PatternText
patterns_in searches = map searched searches.searches.items

-- The number of the line that is searched next.
abbrev pub next_number_in : Searches → ℕ
next_number_in searches = searches.next_number

-- For each pattern, in their order, how many lines it was the first to match.
abbrev pub matched_in : Searches → List ℕ
matched_in searches = map (λ search. search.matched) searches.searches.items

-- How many lines no pattern matched, without those that aren't UTF-8.
abbrev pub unmatched_in : Searches → ℕ
unmatched_in searches = searches.unmatched

-- How many lines weren't UTF-8.
abbrev pub broken_in : Searches → ℕ
broken_in searches = searches.broken

-- The same patterns go on with the next line. If an allocation failed, the line has no number.
pub record HasNumbered {A E : Type 0} (old new : Searches) (result : Result A E) : Type 0 where
  pub patterns : patterns_in new ≡ patterns_in old
  pub ok : OnOk result (next_number_in new ≡ next_number_in old + 1)
  pub err : OnErr result (next_number_in new ≡ next_number_in old)

-- The index of the first pattern that matches the line.
abbrev pub first_index : List PatternText → List ℕ → Option ℕ
first_index patterns line = position_from (λ pattern. is_some (match_of pattern line)) 0 patterns

-- These counts with one more at this index, or as they are if there is no index.
abbrev pub one_more_at : Option ℕ → List ℕ → List ℕ
one_more_at None counts = counts
one_more_at (Some index) counts = set counts index (get_or counts index 0 + 1)

-- One line more was counted: for the pattern with this index, or if there is none, as a line that no pattern matched.
pub record HasCounted (old new : Searches) (index : Option ℕ) : Type 0 where
  pub matched : matched_in new ≡ one_more_at index (matched_in old)
  pub unmatched : unmatched_in new ≡ (if is_some index then unmatched_in old else unmatched_in old + 1)
  pub broken : broken_in new ≡ broken_in old

-- The search has the match of its pattern in this line.
abbrev pub HasMatch : List ℕ → Search → Type 0
HasMatch line search = HasMatchIn line (finds_of search.search.pattern.engine)
    (length (regex_names (engine_regex search.search.pattern.engine))) search.search

-- The search has the match of its pattern, which is the first of these patterns that matches the line.
pub record HasFirstMatch (patterns : List PatternText) (line : List ℕ) (search : Search) : Type 0 where
  pub found : HasMatch line search
  pub first : first_match patterns line ≡ match_of (searched search) line
