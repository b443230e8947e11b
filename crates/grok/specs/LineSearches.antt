-- What contracts see of a search that keeps the match that it found last.
use Rattle.std.specs.Prelude.{◌≡◌, ℕ, List, Option, Some, length, refl}
use Rattle.std.specs.Coded.{Coded, code_by, coded×, coded_list, coded_option, coded_ℕ}
use Rattle.grok.specs.Locations.{AreLocationsIn, located_texts}
use Rattle.grok.specs.Answers.{PatternValue, pattern_code}

-- a search: its pattern, and of each group, from group 0 on, the byte range that the last search found
pub record LineSearchValue (E : Type 0) : Type 0 where
  pub pattern : PatternValue E
  pub ranges : List (Option (ℕ × ℕ))

-- How a search's value is coded, which contracts with a generic engine need.
abbrev pub line_search_code : {E : Type 0} → Coded E → Coded (LineSearchValue E)
line_search_code {E} engine =
    code_by (PatternValue E × List (Option (ℕ × ℕ)))
    (coded× (pattern_code engine) (coded_list (coded_option (coded× coded_ℕ coded_ℕ))))
    (λ search. (search.pattern, search.ranges)) (λ t. record { pattern = t.0; ranges = t.1 }) (λ _. refl)

-- The search has the match that `finds` has in this line: it found the byte range of each of the `count` groups.
pub record HasMatchIn {E : Type 0} (line : List ℕ) (finds : List ℕ → Option (List (Option (List ℕ)))) (count : ℕ)
    (search : LineSearchValue E) : Type 0 where
  pub answer : Some (located_texts line search.ranges) ≡ finds line
  pub all_groups : length search.ranges ≡ count
  pub inside : AreLocationsIn line search.ranges
