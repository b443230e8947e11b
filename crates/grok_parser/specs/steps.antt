-- Definitions that only private functions use.
pub mod Rest
pub mod Readings
