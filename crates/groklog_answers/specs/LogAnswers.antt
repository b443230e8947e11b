-- What is written for a line of a log: the match of the first pattern that matches, or the answer
-- to a line that none matches.
use Rattle.std.specs.Prelude.{ℕ, ◌+◌, List, [], ◌++◌, Bool, true, Result, if◌then◌else◌, codes}
use Rattle.std.specs.Result.{is_ok, is_err}
use Rattle.groklog_answers.specs.Layouts.{LayoutValue}
use Rattle.groklog_answers.specs.Patterns.{PatternText, MatchText}
use Rattle.groklog_answers.specs.SearchedLines.{searched_answer}
use Rattle.groklog_answers.specs.AnsweredTexts.{AnsweredText, line_of}
use Rattle.groklog_answers.specs.Objects.{answer_members, object_text}
use Rattle.groklog_answers.specs.PairTexts.{answer_lines}
use Rattle.groklog_answers.specs.Records.{answer_record}
use Rattle.groklog_answers.specs.declared.layout.Lines.{Lines}
use Rattle.groklog_answers.specs.declared.layout.Lines.TheVariants.{All, Matched, Unmatched}
use Rattle.groklog_answers.specs.declared.layout.Failure.{Failure}
use Rattle.groklog_answers.specs.declared.layout.OutputFormat.{OutputFormat}
use Rattle.groklog_answers.specs.declared.layout.OutputFormat.TheVariants.{Json, Pairs, Csv}

-- What is written for a line.
abbrev pub answer_text : OutputFormat → AnsweredText → List ℕ
answer_text Json line = object_text (answer_members line) ++ codes "\n"
answer_text Pairs line = answer_lines line
answer_text Csv line = answer_record line

-- Whether a line is answered. It is matched or not.
abbrev pub is_answered : Lines → Result MatchText Failure → Bool
is_answered All found = true
is_answered Matched found = is_ok found
is_answered Unmatched found = is_err found

-- The answer to a line. It is empty if only other lines are answered.
abbrev pub answer_to : AnsweredText → List ℕ
answer_to line = if is_answered line.layout.lines line.found then answer_text line.layout.format line else []

-- THE ANSWER to the n-th line. A line that isn't UTF-8 counts as unmatched. If the line itself is
-- written, each part of it that isn't UTF-8 becomes U+FFFD.
abbrev pub log_answer : LayoutValue → List PatternText → ℕ → List ℕ → List ℕ
log_answer layout = searched_answer (λ found n line. answer_to (line_of layout found n line))

-- The answer to the line that comes `n` lines after the line with the number `first`. Its number is
-- `first + n`, whether the lines before it match or not.
abbrev pub log_answers_from : LayoutValue → List PatternText → ℕ → ℕ → List ℕ → List ℕ
log_answers_from layout patterns first n = log_answer layout patterns (first + n)
