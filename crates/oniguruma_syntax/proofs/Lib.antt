pub mod CopiesAreRecorded
pub mod EndsOfTexts
pub mod KindsAreNamedOnce
pub mod PartsAreTheText
pub mod TextsOfTokens
