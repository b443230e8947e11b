pub mod Lines
pub mod LineLaws
pub mod Traffic
pub mod Streams
pub mod Events
pub mod EventViews
pub mod Errors
pub mod Pairs
pub mod EventStates
-- THE WORDS FOR CALLERS: each definition that a contract of `answer_lines`, `handle_lines`, `EventAnswers` or `append_pair` uses.
pub use Rattle.grok_lines.specs.Lines.{lines_of, ended_lines_of}
pub use Rattle.grok_lines.specs.Traffic.{traffic}
pub use Rattle.grok_lines.specs.Streams.{answers_of, AreAnswersAfter, HasAnsweredInput, HasAnsweredInputThen, HasAnsweredInputAnd, HasAnsweredEnded, HasAnsweredEndedAnd, HasAnsweredSome, GoesOn}
pub use Rattle.grok_lines.specs.Errors.{IsWriteError, UnlessWriteFailed}
pub use Rattle.grok_lines.specs.Pairs.{pair_line}
pub use Rattle.grok_lines.specs.Events.{event_text, line_starts, AreEventsOf, event_answers, ended_events, AnswersEvents}
