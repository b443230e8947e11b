-- Events: runs of lines that belong together, such as a message and the stack trace below it.
use Rattle.std.specs.Prelude.{◌≡◌, ◌≤◌, ◌⊎◌, ℕ, ◌+◌, Bool, true, false, List, [], ◌∷◌, ◌++◌, nat_le, if◌then◌else◌, length, drop}
use Rattle.std.specs.List.{AllByRecursion, flat_map, join_with_byte}
use Rattle.std.specs.Str.{is_utf8}
use Rattle.grok_lines.specs.Lines.{line_feed}

-- The text of an event: its lines, joined by line feeds.
abbrev pub event_text : List (List ℕ) → List ℕ
event_text event = join_with_byte line_feed event

-- Whether a line is a start, that is, begins an event. `starts` decides that for a line that is UTF-8, and any other
-- line is no start.
abbrev pub line_starts : (List ℕ → Bool) → List ℕ → Bool
line_starts starts line = if is_utf8 line then starts line else false

-- There is a line, and the first one is a start.
abbrev pub BeginsAtStart : (List ℕ → Bool) → List (List ℕ) → Type 0
BeginsAtStart starts [] = ⊥
BeginsAtStart starts (line ∷ lines) = starts line ≡ true

-- Each of these events but the last one is full, or the next one begins at a start.
abbrev pub EndOnlyWhenDue : (List ℕ → Bool) → ℕ → List (List (List ℕ)) → Type 0
EndOnlyWhenDue starts most [] = Unit {0}
EndOnlyWhenDue starts most (event ∷ []) = Unit {0}
EndOnlyWhenDue starts most (event ∷ next ∷ events) =
    ((length event ≡ most) ⊎ BeginsAtStart starts next) × EndOnlyWhenDue starts most (next ∷ events)

-- THE EVENTS of these lines. `starts` says which lines begin an event, and an event has at most `most` lines.
pub record AreEventsOf (starts : List ℕ → Bool) (most : ℕ) (lines : List (List ℕ)) (events : List (List (List ℕ))) : Type 0 where
  -- One after another, the events are the lines.
  pub joined : flat_map (λ event. event) events ≡ lines
  -- Each event has one line at least, and `most` lines at most.
  pub sizes : AllByRecursion (λ event. (1 ≤ length event) × (length event ≤ most)) events
  -- No line of an event but its first is a start.
  pub inside : AllByRecursion (λ event. AllByRecursion (λ line. starts line ≡ false) (drop 1 event)) events
  -- An event ends only if it is full, before a start, or at the end of the lines.
  pub ends : EndOnlyWhenDue starts most events

-- The answers to these events, where `answer n text` is the answer to the event with this text whose first line is the
-- n-th line, counted from 0.
abbrev pub event_answers : (ℕ → List ℕ → List ℕ) → List (List (List ℕ)) → List ℕ
event_answers answer [] = []
event_answers answer (event ∷ events) =
    answer 0 (event_text event) ++ event_answers (λ n. answer (length event + n)) events

-- The events that no further line can belong to: all but the last one, and that one too if it is full.
abbrev pub ended_events : ℕ → List (List (List ℕ)) → List (List (List ℕ))
ended_events most [] = []
ended_events most (event ∷ []) = if nat_le most (length event) then event ∷ [] else []
ended_events most (event ∷ next ∷ events) = event ∷ ended_events most (next ∷ events)

-- `answers lines` are the answers to the events of an input with these lines. `first_answers lines` are the answers to
-- those that no further line can belong to.
abbrev pub AnswersEvents : (ℕ → List ℕ → List ℕ) → (List ℕ → Bool) → ℕ → (List (List ℕ) → List ℕ) → (List (List ℕ) → List ℕ) → Type 0
AnswersEvents answer starts most answers first_answers = (lines : List (List ℕ))
    → (events : List (List (List ℕ))) × AreEventsOf starts most lines events
    × (answers lines ≡ event_answers answer events)
    × (first_answers lines ≡ event_answers answer (ended_events most events))
