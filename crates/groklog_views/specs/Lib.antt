pub mod Pages
pub mod Fields
pub mod Figures
pub mod KeyNumbers
pub mod Shown
pub mod steps
-- THE WORDS FOR CALLERS: each definition that a contract of a public call uses.
pub use Rattle.groklog_views.specs.Pages.{lists_unmatched, with_unmatched}
pub use Rattle.groklog_views.specs.Fields.{field_text, fields_text, numbers_at, values_at}
pub use Rattle.groklog_views.specs.KeyNumbers.{counts, AreNumbers, AreNumbersOf}
pub use Rattle.groklog_views.specs.Shown.{unmatched_shown, IsColoured}
