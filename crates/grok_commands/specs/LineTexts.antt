-- The answers of `match` and of `json` to a line. `finds` says what the engine captures in each line, and
-- `keys` says which group each key has.
use Rattle.std.specs.Prelude.{ℕ, List, ◌++◌, Option, Some, None, if◌then◌else◌, codes, flat_map}
use Rattle.std.specs.Str.{is_utf8}
use Rattle.grok.specs.KeyTable.{Entries}
use Rattle.grok.specs.Answers.{walk}
use Rattle.grok_lines.specs.Pairs.{pair_line}
use Rattle.grok_commands.specs.JsonObjects.{object_text}
use Rattle.grok_commands.specs.declared.line_answers.LineFormat.{LineFormat}
use Rattle.grok_commands.specs.declared.line_answers.LineFormat.TheVariants.{Pairs, Object}

-- for each line, what each group captured (`None` for a group that took no part), or `None` if nothing matches
abbrev pub Finds : Type 0
Finds = List ℕ → Option (List (Option (List ℕ)))

-- the answer to a line that is not UTF-8
abbrev pub not_utf8_text : LineFormat → List ℕ
not_utf8_text Pairs = codes "not UTF-8\n\n"
not_utf8_text Object = codes "false\n"

-- the answer to a line in which nothing matches
abbrev pub no_match_text : LineFormat → List ℕ
no_match_text Pairs = codes "no match\n\n"
no_match_text Object = codes "null\n"

-- the answer to a line whose match has these pairs
abbrev pub match_text : LineFormat → List (List ℕ × List ℕ) → List ℕ
match_text Pairs pairs = flat_map pair_line pairs ++ codes "\n"
match_text Object pairs = object_text pairs ++ codes "\n"

-- the answer to a line in which the groups captured `captures`, or, for `None`, to a line in which nothing
-- matches
abbrev pub found_text : LineFormat → Entries → Option (List (Option (List ℕ))) → List ℕ
found_text format keys None = no_match_text format
found_text format keys (Some captures) = match_text format (walk keys captures)

-- THE ANSWER to a line
abbrev pub line_answer : LineFormat → Finds → Entries → List ℕ → List ℕ
line_answer format finds keys line =
    if is_utf8 line then found_text format keys (finds line) else not_utf8_text format
