-- The laws of the lines of an input, of the answers to them, and of their events.
use Rattle.std.specs.Prelude.{◌≡◌, ℕ, Bool, List, ◌++◌, codes, flat_map, length}
use Rattle.std.specs.List.{AllByRecursion}
use Rattle.grok_lines.specs.Lines.{lines_of, ended_lines_of, unended_of, last_line, IsLine}
use Rattle.grok_lines.specs.Streams.{answers_of, AreAnswersAfter}
use Rattle.grok_lines.specs.Events.{AreEventsOf}

-- the lines, each with its line feed, one after another
abbrev pub joined_lines : List (List ℕ) → List ℕ
joined_lines lines = flat_map (λ line. line ++ codes "\n") lines

-- An input is its ended lines, each followed by its line feed, and then the rest that has no line feed.
abbrev pub InputsAreTheirLines : Type 0
InputsAreTheirLines = (input : List ℕ) → joined_lines (ended_lines_of input) ++ unended_of input ≡ input

-- No line has a line feed in it, and neither has the rest.
abbrev pub NoLineHoldsALineFeed : Type 0
NoLineHoldsALineFeed = (input : List ℕ)
    → AllByRecursion IsLine (ended_lines_of input) × IsLine (unended_of input)

-- The lines are those that end in a line feed, and then the rest of the input, if it isn't empty.
abbrev pub OnlyTheLastMayLackItsLineFeed : Type 0
OnlyTheLastMayLackItsLineFeed = (input : List ℕ)
    → lines_of input ≡ ended_lines_of input ++ last_line (unended_of input)

-- If lines and a rest, none of which has a line feed in it, are joined to an input, they are the lines and the rest
-- of this input.
abbrev pub NoOtherLinesMakeUpAnInput : Type 0
NoOtherLinesMakeUpAnInput = (lines : List (List ℕ)) (rest : List ℕ)
    → AllByRecursion IsLine lines → IsLine rest
    → (ended_lines_of (joined_lines lines ++ rest) ≡ lines) × (unended_of (joined_lines lines ++ rest) ≡ rest)

-- ---- answers

-- If an answer doesn't depend on how many lines came before, the answers to `lines` are the answers to each line by
-- itself, one after another.
abbrev pub AnswersByLinesAlone : Type 0
AnswersByLinesAlone = (answer : List ℕ → List ℕ) (lines : List (List ℕ))
    → answers_of (λ n. answer) lines ≡ flat_map answer lines

-- The answers to `lines` and `more` as one list are the answers to `lines`, and then those to `more`, whose numbers
-- go on after those of `lines`.
abbrev pub AnswersGoOn : Type 0
AnswersGoOn = (answer later : ℕ → List ℕ → List ℕ) (lines more : List (List ℕ))
    → AreAnswersAfter (length lines) answer later
    → answers_of answer (lines ++ more) ≡ answers_of answer lines ++ answers_of later more

-- ---- events

-- Lines have no other events than these.
abbrev pub NoOtherEvents : Type 0
NoOtherEvents = (starts : List ℕ → Bool) (most : ℕ) (lines : List (List ℕ)) (events others : List (List (List ℕ)))
    → AreEventsOf starts most lines events → AreEventsOf starts most lines others → others ≡ events
