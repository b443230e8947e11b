-- What contracts see of an `EventAnswers`.
use Rattle.std.specs.Prelude.{ℕ, ◌+◌, ◌==◌, Bool, List, [], if◌then◌else◌}
use Rattle.grok_lines.specs.Events.{line_starts}
use Rattle.grok_lines.specs.EventStates.{EventState}
use Rattle.grok_lines.specs.declared.events.EventAnswers.{EventAnswers}

-- The state of an `EventAnswers`, from the lines that it has read. The handler `answers` has yet to skip `passed` lines, so
-- its next line is numbered that much higher.
abbrev pub event_state : {A S : Type 0} → (A → ℕ → List ℕ → List ℕ) → (S → List ℕ → Bool) → EventAnswers A S → EventState
event_state answer starts events = record {
  answer = λ n. answer events.answers (events.passed + n);
  starts = line_starts (starts events.start);
  most = events.most;
  line_count = events.line_count;
  text = if events.line_count == 0 then [] else events.event.items;
}
