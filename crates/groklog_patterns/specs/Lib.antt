pub mod Compiled
-- THE WORDS FOR CALLERS: each definition that a contract of a public call uses.
pub use Rattle.groklog_patterns.specs.Compiled.{IsRunPattern, IsRefused, IsCompileFault}
