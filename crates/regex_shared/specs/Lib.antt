pub mod Texts
pub mod steps
-- THE WORDS FOR CALLERS: every definition that a contract of a public call uses.
pub use Rattle.regex_shared.specs.Texts.{text_of, capture_texts, texts_if, IsSliceOf, AreSlicesOf, IsMatchIn, IsReadByDefault, captures_in, captures_by}
pub use Rattle.regex.specs.Strings
