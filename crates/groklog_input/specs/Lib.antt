pub mod InputFaults
pub mod LineForms
-- THE WORDS FOR CALLERS: each definition that a contract of a public call uses.
pub use Rattle.groklog_input.specs.LineForms.{trimmed, formed, formed_lines, encoding_of}
