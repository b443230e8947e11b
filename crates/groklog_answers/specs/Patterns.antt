-- The first of some patterns that matches a line.
use Rattle.std.specs.Prelude.{ℕ, Bool, List, [], ◌∷◌, Option, None, option_map}
use Rattle.std.specs.Option.{is_some, option_or}
use Rattle.grok.specs.Maps.{Texts}
use Rattle.grok.specs.KeyTable.{Entries}
use Rattle.grok.specs.Answers.{walk, value_of}
use Rattle.groklog_answers.specs.Plans.{FieldText}

-- What contracts see of a pattern: its tag, what the engine captures in each line (`None` if it
-- doesn't match), which group each key has, which extract, and the plan of its answers, if it has one.
pub record PatternText : Type 0 where
  pub tag : List ℕ
  pub finds : List ℕ → Option (List (Option (List ℕ)))
  pub keys : Entries
  pub extracts : Texts
  pub plan : Option (List FieldText)

-- What contracts see of a match: the tag, the extracts and the plan of its pattern, its pairs, and the
-- value of each key, if it has one.
pub record MatchText : Type 0 where
  pub tag : List ℕ
  pub extracts : Texts
  pub plan : Option (List FieldText)
  pub pairs : List (List ℕ × List ℕ)
  pub value : List ℕ → Option (List ℕ)

-- The match of this pattern whose groups have these texts.
abbrev pub match_with : PatternText → List (Option (List ℕ)) → MatchText
match_with pattern captures = record {
  tag = pattern.tag;
  extracts = pattern.extracts;
  plan = pattern.plan;
  pairs = walk pattern.keys captures;
  value = value_of pattern.keys captures;
}

-- The match of this pattern in the line, or `None` if it doesn't match.
abbrev pub match_of : PatternText → List ℕ → Option MatchText
match_of pattern line = option_map (match_with pattern) (pattern.finds line)

-- The match of the first pattern that matches the line, or `None` if none of them does.
abbrev pub first_match : List PatternText → List ℕ → Option MatchText
first_match [] line = None
first_match (pattern ∷ more) line = option_or (match_of pattern line) (first_match more line)

-- Whether something is found in the line by what captures in each line.
abbrev pub is_found : (List ℕ → Option (List (Option (List ℕ)))) → List ℕ → Bool
is_found finds line = is_some (finds line)
