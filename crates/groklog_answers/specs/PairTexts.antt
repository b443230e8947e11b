-- The `KEY=VALUE` lines for a line of a log.
use Rattle.std.specs.Prelude.{ℕ, ◌==◌, List, [], ◌++◌, ◌&&◌, Option, Some, None, Result, Ok, Err, if◌then◌else◌, codes, flat_map, length, option_map}
use Rattle.std.specs.Option.{option_to_list}
use Rattle.grok_lines.specs.Pairs.{pair_line}
use Rattle.groklog_answers.specs.Layouts.{LayoutValue}
use Rattle.groklog_answers.specs.Patterns.{MatchText}
use Rattle.groklog_answers.specs.AnsweredTexts.{AnsweredText, added_text}
use Rattle.groklog_answers.specs.declared.layout.Addition.{Addition}
use Rattle.groklog_answers.specs.declared.layout.Failure.{Failure}

-- The `KEY=VALUE` line with this key. Without a value it is the empty text.
abbrev pub optional_line : List ℕ → Option (List ℕ) → List ℕ
optional_line key None = []
optional_line key (Some value) = pair_line (key, value)

-- The `KEY=VALUE` line for what is added.
abbrev pub added_line : AnsweredText → Addition × List ℕ → List ℕ
added_line line added = optional_line added.1 (added_text line added.0)

-- The `KEY=VALUE` line for a pair of a match. It is the empty text if the value is empty and
-- `drops_empty` is true.
abbrev pub field_line : LayoutValue → List ℕ × List ℕ → List ℕ
field_line layout pair = if layout.drops_empty && (length pair.1 == 0) then [] else pair_line pair

-- The key with its value in a match, or nothing if it has none. `value` is the value of each key.
abbrev pub pair_of_key : (List ℕ → Option (List ℕ)) → List ℕ → List (List ℕ × List ℕ)
pair_of_key value name = option_to_list (option_map (λ text. (name, text)) (value name))

-- The pairs that are written: all pairs of a match, or those with the keys `names`, in the order of these. `value` is
-- the value of each key.
abbrev pub chosen_pairs : Option (List (List ℕ)) → List (List ℕ × List ℕ) → (List ℕ → Option (List ℕ)) → List (List ℕ × List ℕ)
chosen_pairs None pairs value = pairs
chosen_pairs (Some names) pairs value = flat_map (pair_of_key value) names

-- The `KEY=VALUE` lines for the fields of a line.
abbrev pub field_lines : LayoutValue → Result MatchText Failure → List ℕ
field_lines layout (Ok found) = flat_map (field_line layout) (chosen_pairs layout.fields found.pairs found.value)
field_lines layout (Err why) = []

-- What is written for a line: the fields, what is added before and after them, and an empty line.
abbrev pub answer_lines : AnsweredText → List ℕ
answer_lines line =
    flat_map (added_line line) line.layout.before
    ++ (field_lines line.layout line.found ++ (flat_map (added_line line) line.layout.after ++ codes "\n"))
