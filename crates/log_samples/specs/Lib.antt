pub mod Fits
pub mod Logs
pub mod Sizes
pub mod Tokens
-- THE WORDS FOR CALLERS: each definition that a contract of a public call uses.
pub use Rattle.log_samples.specs.Fits.{Pairs, pairs_in, finds, tells, fits, has_value, has_key_in, has_key, unmarked}
pub use Rattle.log_samples.specs.Sizes.{IsWithin}
pub use Rattle.log_samples.specs.Tokens.{joined}
pub use Rattle.log_samples.specs.Logs.{is_object, looks_like_object, others, AreObjects}
