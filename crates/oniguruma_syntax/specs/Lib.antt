pub mod Literals
pub mod Spelling
pub mod Forms
pub mod Reasons
pub mod Links
pub mod Outcomes
pub mod Changes
-- THE WORDS FOR CALLERS: each definition that a contract of a public call uses.
pub use Rattle.oniguruma_syntax.specs.Spelling.{spelled, spelled_all}
pub use Rattle.oniguruma_syntax.specs.Forms.{FindsOwnForm}
pub use Rattle.oniguruma_syntax.specs.Reasons.{advice_for}
pub use Rattle.oniguruma_syntax.specs.Outcomes.{IsOutcomeOf}
pub use Rattle.oniguruma_syntax.specs.Changes.{NameKindsOnce}
