-- THE LAWS of the answers.
use Rattle.std.specs.Prelude.{◌≡◌, ◌≢◌, ◌⊎◌, ℕ, ◌+◌, List, [], ◌∷◌, ◌++◌, Option, Some, None, Result, Ok, Err, length, map, codes}
use Rattle.std.specs.List.{AllByRecursion}
use Rattle.json.specs.Json.{Json as JsonValue, null, boolean, number, string, array, object, Members, no_members, member, document}
use Rattle.grok_lines.specs.Lines.{IsLine}
use Rattle.grok_lines.specs.Streams.{answers_of}
use Rattle.groklog_answers.specs.Layouts.{LayoutValue}
use Rattle.groklog_answers.specs.Plans.{FieldText, IsShallow}
use Rattle.groklog_answers.specs.Patterns.{PatternText, MatchText, match_of, first_match}
use Rattle.groklog_answers.specs.PlannedFields.{field_value, planned_members}
use Rattle.groklog_answers.specs.AnsweredTexts.{AnsweredText}
use Rattle.groklog_answers.specs.Objects.{members_of, answer_members, object_text}
use Rattle.groklog_answers.specs.LogAnswers.{log_answer, log_answers_from}
use Rattle.groklog_answers.specs.declared.layout.Addition.{Addition}
use Rattle.groklog_answers.specs.declared.layout.Addition.TheVariants.{Number}
use Rattle.groklog_answers.specs.declared.layout.Lines.{Lines}
use Rattle.groklog_answers.specs.declared.layout.Lines.TheVariants.{All, Matched, Unmatched}
use Rattle.groklog_answers.specs.declared.layout.OutputFormat.TheVariants.{Json}
use Rattle.groklog_answers.specs.declared.layout.Failure.{Failure}

-- ---- which pattern answers

-- The pattern doesn't match the line.
abbrev pub DoesNotMatch : List ℕ → PatternText → Type 0
DoesNotMatch line pattern = match_of pattern line ≡ None

-- If a pattern matches the line and none before it does, its match is the one that is written.
abbrev pub FirstThatMatchesAnswers : Type 0
FirstThatMatchesAnswers = (before after : List PatternText) (pattern : PatternText) (line : List ℕ) (found : MatchText)
    → AllByRecursion (DoesNotMatch line) before → match_of pattern line ≡ Some found
    → first_match (before ++ pattern ∷ after) line ≡ Some found

-- If no pattern matches the line, there is no first match.
abbrev pub NoneThatMatchesIsNoMatch : Type 0
NoneThatMatchesIsNoMatch = (patterns : List PatternText) (line : List ℕ)
    → AllByRecursion (DoesNotMatch line) patterns → first_match patterns line ≡ None

-- ---- which lines are answered

-- The layout `layout`, changed to answer `lines`: all lines, only matched ones, or only unmatched
-- ones.
abbrev pub with_lines : Lines → LayoutValue → LayoutValue
with_lines lines layout = record {
  lines = lines;
  format = layout.format;
  before = layout.before;
  after = layout.after;
  file_name = layout.file_name;
  typed = layout.typed;
  drops_empty = layout.drops_empty;
  fields = layout.fields;
  tags_failures = layout.tags_failures;
}

-- With `All` each line has an answer, which isn't empty.
abbrev pub EachLineIsAnswered : Type 0
EachLineIsAnswered = (layout : LayoutValue) (patterns : List PatternText) (n : ℕ) (line : List ℕ)
    → log_answer (with_lines All layout) patterns n line ≢ []

-- One of the answers `matched` and `unmatched` is the answer `all`, and the other one is empty.
abbrev pub Share : List ℕ → List ℕ → List ℕ → Type 0
Share matched unmatched all = ((matched ≡ all) × (unmatched ≡ [])) ⊎ ((matched ≡ []) × (unmatched ≡ all))

-- For each line, either `Matched` or `Unmatched` gives the same answer as `All`, and the other one
-- of the two gives an empty answer.
abbrev pub EachAnswerIsOfOneKind : Type 0
EachAnswerIsOfOneKind = (layout : LayoutValue) (patterns : List PatternText) (n : ℕ) (line : List ℕ)
    → Share (log_answer (with_lines Matched layout) patterns n line)
    (log_answer (with_lines Unmatched layout) patterns n line)
    (log_answer (with_lines All layout) patterns n line)

-- ---- the numbers of the lines

-- The answers to the lines of an input come in the order of the lines. The number of a line is how
-- many lines come before it, plus 1, whichever of them match and whichever are answered.
abbrev pub EachLineHasItsNumber : Type 0
EachLineHasItsNumber = (layout : LayoutValue) (patterns : List PatternText) (before after : List (List ℕ)) (line : List ℕ)
    → answers_of (log_answers_from layout patterns 1) (before ++ line ∷ after)
    ≡ answers_of (log_answers_from layout patterns 1) before
    ++ (log_answer layout patterns (length before + 1) line
    ++ answers_of (log_answers_from layout patterns (length before + 2)) after)

-- What is added isn't a number.
abbrev pub IsNoNumber : Addition × List ℕ → Type 0
IsNoNumber added = added.0 ≢ Number

-- If no number is written, the answer depends on the line alone.
abbrev pub WithoutNumbersLinesStandAlone : Type 0
WithoutNumbersLinesStandAlone = (layout : LayoutValue) (patterns : List PatternText) (m n : ℕ) (line : List ℕ)
    → AllByRecursion IsNoNumber layout.before → AllByRecursion IsNoNumber layout.after
    → log_answer layout patterns m line ≡ log_answer layout patterns n line

-- ---- plans

-- A value in nested objects, with the names that lead to it.
abbrev pub PlacedValue : Type 0
PlacedValue = List (List ℕ) × JsonValue

-- The value is in the object that is the member `name`.
abbrev pub inside_name : List ℕ → PlacedValue → PlacedValue
inside_name name placed = (name ∷ placed.0, placed.1)

abbrev mutual
  -- The values of these members that aren't objects, and those in their objects.
  pub values_in : Members → List PlacedValue
  values_in no_members = []
  values_in (member name value more) = values_at value name ++ values_in more

  -- The values of the member with this value and the name `name`.
  pub values_at : JsonValue → List ℕ → List PlacedValue
  values_at null name = (name ∷ [], null) ∷ []
  values_at (boolean b) name = (name ∷ [], boolean b) ∷ []
  values_at (number text) name = (name ∷ [], number text) ∷ []
  values_at (string text) name = (name ∷ [], string text) ∷ []
  values_at (array items) name = (name ∷ [], array items) ∷ []
  values_at (object inner) name = map (inside_name name) (values_in inner)

-- The value of a field with the names that lead to the field, if it has a value.
abbrev pub value_of_field : FieldText → Option JsonValue → List PlacedValue
value_of_field field None = []
value_of_field field (Some value) = (field.parents ++ field.name ∷ [], value) ∷ []

-- The values that the fields of a plan have in a match.
abbrev pub planned_values : LayoutValue → MatchText → List FieldText → List PlacedValue
planned_values layout found [] = []
planned_values layout found (field ∷ fields) =
    value_of_field field (field_value layout found field) ++ planned_values layout found fields

-- The nested members for a match have the values of the plan's fields at their places, in the order of
-- the plan, and no other values.
abbrev pub EachValueIsAtItsPlace : Type 0
EachValueIsAtItsPlace = (layout : LayoutValue) (found : MatchText) (fields : List FieldText)
    → values_in (planned_members layout found fields) ≡ planned_values layout found fields

-- ---- JSON

-- There is no plan, or one whose objects are nested no deeper than those of each `Plan`.
abbrev pub HasShallowPlan : Option (List FieldText) → Type 0
HasShallowPlan None = Unit {0}
HasShallowPlan (Some fields) = IsShallow fields

-- The line has no match, or the plan of its match has no deeper objects than that.
abbrev pub IsShallowLine : Result MatchText Failure → Type 0
IsShallowLine (Ok found) = HasShallowPlan found.plan
IsShallowLine (Err why) = Unit {0}

-- If the object that is written for a line is read as JSON, it has the members that were written, in the
-- same order.
abbrev pub AnswersReadBack : Type 0
AnswersReadBack = (line : AnsweredText) → IsShallowLine line.found
    → document (object_text (answer_members line)) ≡ Some (object (members_of (answer_members line)))

-- A JSON answer is empty or one line, whatever the values hold.
abbrev pub ObjectsAreLines : Type 0
ObjectsAreLines = (layout : LayoutValue) (patterns : List PatternText) (n : ℕ) (line : List ℕ) → layout.format ≡ Json
    → (log_answer layout patterns n line ≡ [])
    ⊎ ((object : List ℕ) × IsLine object × (log_answer layout patterns n line ≡ object ++ codes "\n"))
