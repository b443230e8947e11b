-- Lines that are answered, and what is added to the fields of their answers.
use Rattle.std.specs.Prelude.{ℕ, List, Option, Some, Result, option_map}
use Rattle.std.specs.Result.{result_ok, result_err}
use Rattle.grok.specs.Numeral.{numeral}
use Rattle.groklog_answers.specs.Layouts.{LayoutValue, failure_words}
use Rattle.groklog_answers.specs.Patterns.{MatchText}
use Rattle.groklog_answers.specs.declared.layout.Addition.{Addition}
use Rattle.groklog_answers.specs.declared.layout.Addition.TheVariants.{Number, File, Failed, Tag, Line}
use Rattle.groklog_answers.specs.declared.layout.Failure.{Failure}

-- What contracts see of a line that is answered: how, with which match or why it has no fields, its number, and
-- its text.
pub record AnsweredText : Type 0 where
  pub layout : LayoutValue
  pub found : Result MatchText Failure
  pub number : ℕ
  pub text : List ℕ

-- The n-th line as it is answered.
abbrev pub line_of : LayoutValue → Result MatchText Failure → ℕ → List ℕ → AnsweredText
line_of layout found n line = record { layout = layout; found = found; number = n; text = line }

-- The text that is added to an answer, or `None` if the line doesn't have it: only a match has a tag, and only a line
-- without fields has a reason for that.
abbrev pub added_text : AnsweredText → Addition → Option (List ℕ)
added_text line Number = Some (numeral line.number)
added_text line File = Some line.layout.file_name
added_text line Failed = option_map failure_words (result_err line.found)
added_text line Tag = option_map (λ found. found.tag) (result_ok line.found)
added_text line Line = Some line.text
