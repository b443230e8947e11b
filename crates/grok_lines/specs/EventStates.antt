-- The states of a reader of events, line by line. `laws::events` states what has been answered at the end.
use Rattle.std.specs.Prelude.{◌≡◌, ◌≤◌, ℕ, ◌+◌, Bool, true, List, [], ◌∷◌, ◌++◌, ◌==◌, nat_le, if◌then◌else◌, length}
use Rattle.grok_lines.specs.Lines.{line_feed}
use Rattle.grok_lines.specs.Streams.{AreAnswersAfter}
use Rattle.grok_lines.specs.Events.{AnswersEvents}

-- The event so far has `line_count` lines and this text. If it has no lines, no event has begun. The lines are numbered
-- from 0 on, from the first line of this event on, or from the next line on if there is no event.
pub record EventState : Type 0 where
  pub answer : ℕ → List ℕ → List ℕ
  pub starts : List ℕ → Bool
  pub most : ℕ
  pub line_count : ℕ
  pub text : List ℕ

-- Whether the next line begins an event.
abbrev pub begins_event : EventState → List ℕ → Bool
begins_event state line = if state.line_count == 0 then true else state.starts line

-- Whether the event so far has as many lines as an event may have.
abbrev pub is_full : EventState → Bool
is_full state = nat_le state.most state.line_count

-- The answer to the event so far, or nothing if there is no event.
abbrev pub answer_so_far : EventState → List ℕ
answer_so_far state = if state.line_count == 0 then [] else state.answer 0 state.text

-- The answer to the event so far if it is full, or nothing.
abbrev pub answer_if_full : EventState → List ℕ
answer_if_full state = if is_full state then state.answer 0 state.text else []

-- The state with a line that begins an event.
abbrev pub after_begin : List ℕ → EventState → EventState
after_begin line state = record {
  answer = λ n. state.answer (state.line_count + n);
  starts = state.starts;
  most = state.most;
  line_count = 1;
  text = line;
}

-- The state with a line that belongs to the event so far.
abbrev pub after_more : List ℕ → EventState → EventState
after_more line state = record {
  answer = state.answer;
  starts = state.starts;
  most = state.most;
  line_count = state.line_count + 1;
  text = state.text ++ line_feed ∷ line;
}

abbrev pub with_line : Bool → List ℕ → EventState → EventState
with_line begins line state = if begins then after_begin line state else after_more line state

-- The state after the end of the event so far.
abbrev pub after_end : EventState → EventState
after_end state = record {
  answer = λ n. state.answer (state.line_count + n);
  starts = state.starts;
  most = state.most;
  line_count = 0;
  text = [];
}

-- The state in which a full event has ended.
abbrev pub ended_if_full : EventState → EventState
ended_if_full state = if is_full state then after_end state else state

-- All that is answered while these lines are read from this state on, and after them what `last` returns for the state at
-- their end.
abbrev pub answers_after : (EventState → List ℕ) → EventState → List (List ℕ) → List ℕ
answers_after last state [] = last state
answers_after last state (line ∷ lines) =
    let begins = begins_event state line in
    let next = with_line begins line state in
    (if begins then answer_so_far state else []) ++ (answer_if_full next ++ answers_after last (ended_if_full next) lines)

-- `later` is the state before the next input, after an input with these lines.
pub record IsNextState (state : EventState) (lines : List (List ℕ)) (later : EventState) : Type 0 where
  pub none : later.line_count ≡ 0
  pub starts : later.starts ≡ state.starts
  pub most : later.most ≡ state.most
  pub answer : AreAnswersAfter (state.line_count + length lines) state.answer later.answer

-- If no event has begun in a state, what is answered from it on are the answers to the events of the lines that follow.
abbrev pub StatesAnswerEvents : Type 0
StatesAnswerEvents = (state : EventState) → state.line_count ≡ 0 → 1 ≤ state.most
    → AnswersEvents state.answer state.starts state.most (answers_after answer_so_far state) (answers_after (λ state. []) state)
