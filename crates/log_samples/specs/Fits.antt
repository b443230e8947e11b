-- Which lines a pattern fits.
use Rattle.std.specs.Prelude.{ℕ, ◌==◌, List, Bool, false, not, ◌&&◌, Option, option_map, is_some, length, map, filter}
use Rattle.std.specs.Borrow.{Bor}
use Rattle.std.specs.List.{list_any, zip}
use Rattle.std.specs.Option.{option_map_or}
use Rattle.grok.specs.Engines.{engine_regex}
use Rattle.grok.specs.RegexFinds.{captures_by}
use Rattle.grok.specs.Answers.{PatternValue, value_of, walk}
use Rattle.grok.specs.declared.engine.regex_engine.RegexEngine.{RegexEngine}

-- The pairs of a match: keys with their values.
abbrev pub Pairs : Type 0
Pairs = List (List ℕ × List ℕ)

-- The pairs of the match of a pattern in the line, or `None` if it finds nothing.
abbrev pub pairs_in : PatternValue RegexEngine → List ℕ → Option Pairs
pairs_in pattern line = option_map (walk pattern.keys) (captures_by (engine_regex pattern.engine) line)

-- The pattern finds something in the line.
abbrev pub finds : PatternValue RegexEngine → List ℕ → Bool
finds pattern line = is_some (pairs_in pattern line)

-- A match tells something about its line: no value of it is the whole line.
abbrev pub tells : List ℕ → Pairs → Bool
tells line pairs = not (list_any (λ pair. length pair.1 == length line) pairs)

-- THE PATTERN FITS THE LINE: it finds something there, but not the whole line as one value.
abbrev pub fits : PatternValue RegexEngine → List ℕ → Bool
fits pattern line = option_map_or (tells line) (pairs_in pattern line) false

-- The bytes of these texts.
abbrev pub texts_of : List (Bor (List ℕ)) → List (List ℕ)
texts_of texts = map (λ text. text.now) texts

-- A key has a value that isn't empty.
abbrev pub has_value : (List ℕ → Option (List ℕ)) → List ℕ → Bool
has_value value key = option_map_or (λ text. not (length text == 0)) (value key) false

-- The pattern fits the line, and its key has a value there that isn't empty.
abbrev pub has_key_in : PatternValue RegexEngine → List ℕ → List ℕ → Bool
has_key_in pattern key line = fits pattern line
    && option_map_or (λ captures. has_value (value_of pattern.keys captures) key) (captures_by (engine_regex pattern.engine) line) false

-- THE KEY HAS A VALUE in one of the lines.
abbrev pub has_key : PatternValue RegexEngine → List (List ℕ) → List ℕ → Bool
has_key pattern lines key = list_any (has_key_in pattern key) lines

-- The lines that aren't marked.
abbrev pub unmarked : List (Bor (List ℕ)) → List Bool → List (Bor (List ℕ))
unmarked lines each = map (λ pair. pair.0) (filter (λ pair. not pair.1) (zip lines each))
