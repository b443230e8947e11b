pub mod DefinitionTexts
pub mod Texts
pub mod Compiled
pub mod Origins
-- THE WORDS FOR CALLERS: each definition that a contract of a public call uses.
pub use Rattle.groklog_definitions.specs.DefinitionTexts.{without_blanks, definition_of}
pub use Rattle.groklog_definitions.specs.Texts.{ordinal_text, pattern_texts}
pub use Rattle.groklog_definitions.specs.Compiled.{IsCompiledFrom, IsRefusedText, IsPastOrNot, IsTooLarge, IsRefusal}
pub use Rattle.groklog_definitions.specs.Origins.{is_own}
