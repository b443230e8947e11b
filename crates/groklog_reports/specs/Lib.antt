pub mod Faults
pub mod Units
pub mod Visible
-- THE WORDS FOR CALLERS: each definition that a contract of a public call uses.
pub use Rattle.groklog_reports.specs.Faults.{excerpt_text, part_texts, fault_status, failure_of, IsFaultOfFile, IsFaultOfWrite}
pub use Rattle.groklog_reports.specs.Units.{unit_word, units_text, place_text}
pub use Rattle.groklog_reports.specs.Visible.{has_raw, visible}
