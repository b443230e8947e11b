-- Lemmas of pieces that are kept as byte ranges of their text.
pub mod PartsEndAtBoundaries
pub mod OneMoreSpan
