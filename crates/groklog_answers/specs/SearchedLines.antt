-- What is found in a line of a log, and what a task writes for it.
use Rattle.std.specs.Prelude.{ℕ, ◌+◌, List, Option, Result, Err, if◌then◌else◌}
use Rattle.std.specs.Option.{ok_or}
use Rattle.std.specs.Str.{is_utf8}
use Rattle.std.specs.Str.Lossy.{utf8_lossy}
use Rattle.groklog_answers.specs.Patterns.{PatternText, MatchText, first_match}
use Rattle.groklog_answers.specs.declared.layout.Failure.{Failure}
use Rattle.groklog_answers.specs.declared.layout.Failure.TheVariants.{NoMatch, NotUtf8}

-- What is found in a line that is UTF-8: the match of the first pattern that matches it, or that there is none.
abbrev pub found_in : List PatternText → List ℕ → Result MatchText Failure
found_in patterns line = ok_or (first_match patterns line) NoMatch

-- What is written for the n-th line by a task that writes `answer found n line` for a line in which this is found. A line that
-- isn't UTF-8 has no match, and each part of it that isn't UTF-8 becomes U+FFFD.
abbrev pub searched_answer : (Result MatchText Failure → ℕ → List ℕ → List ℕ) → List PatternText → ℕ → List ℕ → List ℕ
searched_answer answer patterns n line =
    if is_utf8 line then answer (found_in patterns line) n line
    else answer (Err NotUtf8) n (utf8_lossy line)

-- What is written for the line that comes `n` lines after the one with the number `first`.
abbrev pub searched_answers_from : (Result MatchText Failure → ℕ → List ℕ → List ℕ) → List PatternText → ℕ → ℕ → List ℕ → List ℕ
searched_answers_from answer patterns first n = searched_answer answer patterns (first + n)
