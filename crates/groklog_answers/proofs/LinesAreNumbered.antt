-- Each line is answered with its number, counted from 1, and if numbers aren't written they change no answer.
use Rattle.std.proofs.Common.{◌≡◌, ◌≢◌, ℕ, suc, ◌+◌, List, [], ◌∷◌, ◌++◌, length, Result, Err, map, flat_map, refl, ap, ◌∙◌, arith}
use Rattle.std.specs.List.{AllByRecursion}
use Rattle.std.specs.Option.{ok_or}
use Rattle.std.specs.Str.Lossy.{utf8_lossy}
use Rattle.grok_lines.specs.Streams.{answers_of, AreAnswersAfter}
use Rattle.grok_lines.proofs.AnswersAreNumberedOn.{answers_same, answers_append}
use Rattle.groklog_answers.specs.Layouts.{LayoutValue}
use Rattle.groklog_answers.specs.Patterns.{PatternText, MatchText, first_match}
use Rattle.groklog_answers.specs.AnsweredTexts.{line_of, added_text}
use Rattle.groklog_answers.specs.Objects.{added_members}
use Rattle.groklog_answers.specs.PairTexts.{added_line}
use Rattle.groklog_answers.specs.Records.{added_value}
use Rattle.groklog_answers.specs.SearchedLines.{searched_answer, searched_answers_from}
use Rattle.groklog_answers.specs.LogAnswers.{answer_text, log_answer, log_answers_from}
use Rattle.groklog_answers.specs.AnswerLaws.{EachLineHasItsNumber, IsNoNumber, WithoutNumbersLinesStandAlone}
use Rattle.groklog_answers.specs.declared.layout.Addition.{Addition}
use Rattle.groklog_answers.specs.declared.layout.Addition.TheVariants.{Number, File, Failed, Tag, Line}
use Rattle.groklog_answers.specs.declared.layout.Failure.{Failure}
use Rattle.groklog_answers.specs.declared.layout.Failure.TheVariants.{NoMatch, NotUtf8}
use Rattle.groklog_answers.specs.declared.layout.OutputFormat.{OutputFormat}
use Rattle.groklog_answers.specs.declared.layout.OutputFormat.TheVariants.{Json, Pairs, Csv}

-- ---- the count

pub counts_on : (answer later : Result MatchText Failure → ℕ → List ℕ → List ℕ) (patterns more : List PatternText) (first count next : ℕ)
    → later ≡ answer → more ≡ patterns → next ≡ first + count
    → AreAnswersAfter count (searched_answers_from answer patterns first) (searched_answers_from later more next)
counts_on answer later patterns more first count next l p e n =
    ap (λ v. searched_answer v more (next + n)) l ∙ ap (λ v. searched_answer answer v (next + n)) p
    ∙ ap (searched_answer answer patterns) (omega (arith, e))

pub each_line_has_its_number : EachLineHasItsNumber
each_line_has_its_number layout patterns before after line =
    let f = log_answers_from layout patterns in
    answers_append (f 1) (f (length before + 1)) before (line ∷ after) (λ n. ap (log_answer layout patterns) (omega arith))
    ∙ ap (λ answer. answers_of (f 1) before ++ (answer line ++ answers_of (λ n. f (length before + 1) (suc n)) after))
    (ap (log_answer layout patterns) (omega arith))
    ∙ ap (λ answers. answers_of (f 1) before ++ (log_answer layout patterns (length before + 1) line ++ answers))
    (answers_same (λ n. f (length before + 1) (suc n)) (f (length before + 2)) after (λ n. ap (log_answer layout patterns) (omega arith)))

-- ---- without a number

module _ (layout : LayoutValue) (found : Result MatchText Failure) (m n : ℕ) (line : List ℕ) where
  -- Nothing else that is added depends on the number of the line.
  text_same : (what : Addition) → what ≢ Number → added_text (line_of layout found m line) what ≡ added_text (line_of layout found n line) what
  text_same Number none = absurd (none refl)
  text_same File none = refl
  text_same Failed none = refl
  text_same Tag none = refl
  text_same Line none = refl

  members_same : (additions : List (Addition × List ℕ)) → AllByRecursion IsNoNumber additions
      → flat_map (added_members (line_of layout found m line)) additions ≡ flat_map (added_members (line_of layout found n line)) additions
  members_same [] none = refl
  members_same (added ∷ more) none = rw (text_same added.0 none.0, members_same more none.1) refl

  lines_same : (additions : List (Addition × List ℕ)) → AllByRecursion IsNoNumber additions
      → flat_map (added_line (line_of layout found m line)) additions ≡ flat_map (added_line (line_of layout found n line)) additions
  lines_same [] none = refl
  lines_same (added ∷ more) none = rw (text_same added.0 none.0, lines_same more none.1) refl

  values_same : (additions : List (Addition × List ℕ)) → AllByRecursion IsNoNumber additions
      → map (added_value (line_of layout found m line)) additions ≡ map (added_value (line_of layout found n line)) additions
  values_same [] none = refl
  values_same (added ∷ more) none = rw (text_same added.0 none.0, values_same more none.1) refl

  answer_same : (format : OutputFormat) → AllByRecursion IsNoNumber layout.before → AllByRecursion IsNoNumber layout.after
      → answer_text format (line_of layout found m line) ≡ answer_text format (line_of layout found n line)
  answer_same Json before after = rw (members_same layout.before before, members_same layout.after after) refl
  answer_same Pairs before after = rw (lines_same layout.before before, lines_same layout.after after) refl
  answer_same Csv before after = rw (values_same layout.before before, values_same layout.after after) refl

pub without_numbers_lines_stand_alone : WithoutNumbersLinesStandAlone
without_numbers_lines_stand_alone layout patterns m n line before after =
    rw (
      answer_same layout (ok_or (first_match patterns line) NoMatch) m n line layout.format before after,
      answer_same layout (Err NotUtf8) m n (utf8_lossy line) layout.format before after,
    )
    refl
