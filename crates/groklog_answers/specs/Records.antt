-- The records of comma-separated values for the lines of a log.
use Rattle.std.specs.Prelude.{ℕ, List, [], ◌++◌, Option, None, Result, Ok, Err, map, unwrap_or}
use Rattle.csv.specs.Writing.{default_writer, row_text}
use Rattle.groklog_answers.specs.Layouts.{LayoutValue}
use Rattle.groklog_answers.specs.Patterns.{MatchText}
use Rattle.groklog_answers.specs.AnsweredTexts.{AnsweredText, added_text}
use Rattle.groklog_answers.specs.declared.layout.Addition.{Addition}
use Rattle.groklog_answers.specs.declared.layout.Failure.{Failure}

-- The value in the column of what is added. It is empty if the line doesn't have it.
abbrev pub added_value : AnsweredText → Addition × List ℕ → List ℕ
added_value line added = unwrap_or (added_text line added.0) []

-- The keys of patterns that have columns.
abbrev pub columns_of : LayoutValue → List (List ℕ)
columns_of layout = unwrap_or layout.fields []

-- The value of a key in a match. It is empty if the key has none.
abbrev pub value_or_empty : (List ℕ → Option (List ℕ)) → List ℕ → List ℕ
value_or_empty value name = unwrap_or (value name) []

-- The value of each key in a line, if it has one. A line without fields has none.
abbrev pub value_in : Result MatchText Failure → List ℕ → Option (List ℕ)
value_in (Ok found) name = found.value name
value_in (Err why) name = None

-- THE VALUES OF A RECORD: those of the chosen keys, and what is added before and after them.
abbrev pub values_of : AnsweredText → List (List ℕ)
values_of line =
    map (added_value line) line.layout.before
    ++ (map (value_or_empty (value_in line.found)) (columns_of line.layout) ++ map (added_value line) line.layout.after)

-- The record with the names of the columns.
abbrev pub header_record : LayoutValue → List ℕ
header_record layout = row_text default_writer
    (map (λ added. added.1) layout.before ++ (columns_of layout ++ map (λ added. added.1) layout.after))

-- The record of a line.
abbrev pub answer_record : AnsweredText → List ℕ
answer_record line = row_text default_writer (values_of line)
