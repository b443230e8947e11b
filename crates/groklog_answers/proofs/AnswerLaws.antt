-- Proves the laws on which pattern answers a line, and on which lines are answered.
use Rattle.std.proofs.Common.{◌≡◌, ◌≢◌, inl, inr, ℕ, List, [], ◌∷◌, ◌++◌, Bool, true, false, Result, Ok, Err, if◌then◌else◌, codes, refl, flat_map}
use Rattle.std.specs.Option.{ok_or}
use Rattle.std.specs.Str.{is_utf8}
use Rattle.std.specs.Str.Lossy.{utf8_lossy}
use Rattle.groklog_answers.specs.Layouts.{LayoutValue}
use Rattle.groklog_answers.specs.Patterns.{MatchText, first_match}
use Rattle.groklog_answers.specs.AnsweredTexts.{AnsweredText, line_of}
use Rattle.groklog_answers.specs.Objects.{answer_members, object_text}
use Rattle.groklog_answers.specs.PairTexts.{added_line, field_lines}
use Rattle.csv.specs.Writing.{default_writer, quote_mark, is_blank, row_body, row_text}
use Rattle.groklog_answers.specs.Records.{values_of}
use Rattle.groklog_answers.specs.LogAnswers.{answer_text, answer_to}
use Rattle.groklog_answers.specs.AnswerLaws.{FirstThatMatchesAnswers, NoneThatMatchesIsNoMatch, with_lines, Share, EachLineIsAnswered, EachAnswerIsOfOneKind}
use Rattle.groklog_answers.specs.declared.layout.Lines.{Lines}
use Rattle.groklog_answers.specs.declared.layout.Lines.TheVariants.{All, Matched, Unmatched}
use Rattle.groklog_answers.specs.declared.layout.Failure.{Failure}
use Rattle.groklog_answers.specs.declared.layout.Failure.TheVariants.{NoMatch, NotUtf8}
use Rattle.groklog_answers.specs.declared.layout.OutputFormat.{OutputFormat}
use Rattle.groklog_answers.specs.declared.layout.OutputFormat.TheVariants.{Json, Pairs, Csv}

pub first_that_matches_answers : FirstThatMatchesAnswers
first_that_matches_answers [] after pattern line found none is = rw is refl
first_that_matches_answers (other ∷ before) after pattern line found none is =
    rw none.0 (first_that_matches_answers before after pattern line found none.1 is)

pub none_that_matches_is_no_match : NoneThatMatchesIsNoMatch
none_that_matches_is_no_match [] line none = refl
none_that_matches_is_no_match (pattern ∷ patterns) line none = rw none.0 (none_that_matches_is_no_match patterns line none.1)

-- ---- which lines are answered

-- Which lines are answered doesn't change how an answer is written.
text_is_same : (format : OutputFormat) (a b : Lines) (layout : LayoutValue) (found : Result MatchText Failure) (n : ℕ) (line : List ℕ)
    → answer_text format (line_of (with_lines a layout) found n line) ≡ answer_text format (line_of (with_lines b layout) found n line)
text_is_same Json a b layout found n line = refl
text_is_same Pairs a b layout found n line = refl
text_is_same Csv a b layout found n line = refl

shared_by : (layout : LayoutValue) (found : Result MatchText Failure) (n : ℕ) (line : List ℕ)
    → Share (answer_to (line_of (with_lines Matched layout) found n line)) (answer_to (line_of (with_lines Unmatched layout) found n line)) (answer_to (line_of (with_lines All layout) found n line))
shared_by layout (Ok found) n line = inl (text_is_same layout.format Matched All layout (Ok found) n line, refl)
shared_by layout (Err why) n line = inr (refl, text_is_same layout.format Unmatched All layout (Err why) n line)

shared : (is_text : Bool) (a b c x y z : List ℕ) → Share a b c → Share x y z
    → Share (if is_text then a else x) (if is_text then b else y) (if is_text then c else z)
shared true a b c x y z h k = h
shared false a b c x y z h k = k

pub each_answer_is_of_one_kind : EachAnswerIsOfOneKind
each_answer_is_of_one_kind layout patterns n line =
    shared (is_utf8 line) _ _ _ _ _ _ (shared_by layout (ok_or (first_match patterns line) NoMatch) n line)
    (shared_by layout (Err NotUtf8) n (utf8_lossy line))

-- ---- with `All` each line has an answer

-- A list whose end isn't empty isn't empty itself.
filled : (a b : List ℕ) → b ≢ [] → a ++ b ≢ []
filled [] b h e = h e
filled (x ∷ a) b h e = cc

feed : codes "\n" ≢ []
feed e = cc

-- A record isn't empty: it ends in a line feed.
row_is_written : (values : List (List ℕ)) → row_text default_writer values ≢ []
row_is_written values =
    filled (row_body default_writer values) _
    (filled (if is_blank default_writer values then quote_mark ∷ quote_mark ∷ [] else []) (codes "\n") feed)

text_is_written : (format : OutputFormat) (line : AnsweredText) → answer_text format line ≢ []
text_is_written Json line = filled (object_text (answer_members line)) (codes "\n") feed
text_is_written Pairs line =
    filled (flat_map (added_line line) line.layout.before) _
    (filled (field_lines line.layout line.found) _ (filled (flat_map (added_line line) line.layout.after) (codes "\n") feed))
text_is_written Csv line = row_is_written (values_of line)

written : (is_text : Bool) (x y : List ℕ) → x ≢ [] → y ≢ [] → (if is_text then x else y) ≢ []
written true x y h k = h
written false x y h k = k

pub each_line_is_answered : EachLineIsAnswered
each_line_is_answered layout patterns n line =
    written (is_utf8 line) _ _
    (text_is_written layout.format (line_of (with_lines All layout) (ok_or (first_match patterns line) NoMatch) n line))
    (text_is_written layout.format (line_of (with_lines All layout) (Err NotUtf8) n (utf8_lossy line)))
