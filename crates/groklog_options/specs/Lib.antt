pub mod OptionFaults
pub mod Additions
pub mod Tasks
-- THE WORDS FOR CALLERS: each definition that a contract of a public call uses.
pub use Rattle.groklog_options.specs.OptionFaults.{IsOptionFault}
pub use Rattle.groklog_options.specs.Additions.{count_before, option_of}
pub use Rattle.groklog_options.specs.Tasks.{fields_of, has_patterns, has_records, plan_of}
