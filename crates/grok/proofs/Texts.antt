-- Lemmas of texts, numerals, and maps of texts.
pub mod EqualBytesAreSameText
pub mod NumeralsAreDecimal
pub mod DebugOfEntries
pub mod MapShowsTree
pub mod SettingOneName
pub mod EntriesAreTable
pub mod OneMoreInlineDefinition
pub mod RoomIsLeft
pub mod WrittenTextIsAppended
