pub mod Finds
pub mod Pieces
pub mod Beginnings
-- THE WORDS FOR CALLERS: each definition that a contract of a public call uses.
pub use Rattle.regex_beginnings.specs.Finds.{IsReadByDefault, IsRefused, FindsIn, FindsNothingIn, IsAnswer, IsMatchOf, IsFirstMatchIn}
pub use Rattle.regex_beginnings.specs.Pieces.{text_upto, beginning_text, end_of, IsPieceOf, ArePiecesOf}
pub use Rattle.regex_beginnings.specs.Beginnings.{pieces_of, groups_of, is_around, groups_around, IsLongestIn}
