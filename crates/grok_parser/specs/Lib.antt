pub mod Ascii
pub mod Pieces
pub mod PlaceholderNames
pub mod Views
pub mod Uses
pub mod Grammar
pub mod Tiles
pub mod Joined
pub mod Texts
pub mod Malformations
pub mod steps
-- THE WORDS FOR CALLERS: every definition that a contract of a public call uses.
pub use Rattle.grok_parser.specs.Pieces.{Piece, Regular, Placeholder, Malformed, Parts, pieces}
pub use Rattle.grok_parser.specs.Pieces.{is_name_byte, pieces_at}
pub use Rattle.grok_parser.specs.PlaceholderNames.{is_name}
pub use Rattle.grok_parser.specs.Grammar.{ArePieces}
pub use Rattle.grok_parser.specs.Views.{piece_view}
pub use Rattle.grok_parser.specs.Uses.{UseValue, use_view, use_of, uses_in}
pub use Rattle.grok_parser.specs.Texts.{component_text, component_debug, fault_words, IsFaultText, IsPieceText}
pub use Rattle.grok_parser.specs.Malformations.{IsMalformedAt, HasMalformedAt, fault_of}
