pub mod Commands
pub mod Views
pub mod Library
pub mod Answers
pub mod Faults
pub mod JsonEvents
pub mod JsonObjects
pub mod LineTexts
pub mod CommandLaws
pub mod SizeTexts
pub mod Split
pub mod Runs
-- THE WORDS FOR CALLERS: every definition that the contract of `run` uses, and those that explain these.
pub use Rattle.grok_commands.specs.Commands.{texts, RequestValue, CommandValue, command_of}
pub use Rattle.grok_commands.specs.Runs.{IsRunOf, EndsAs, Job, HasJob, IsPatternFault, IsUntouched, IsDone, IsCutShort, IsReadFault, IsWriteFault}
pub use Rattle.grok_lines.specs.Traffic.{traffic}
pub use Rattle.grok_commands.specs.Library.{library_of}
pub use Rattle.grok_commands.specs.Faults.{fault_text}
pub use Rattle.grok.specs.Errors.{ErrorValue, error_value}
