-- The placeholders of a text that name a definition and have none of their own.
use Rattle.std.specs.Prelude.{ℕ, List, Option, Some, None, filter_map, if◌then◌else◌}
use Rattle.grok_parser.specs.Pieces.{Piece, Regular, Placeholder, Malformed, is_empty, pieces}
use Rattle.grok_parser.specs.declared.parser.Use.{Use}

-- a placeholder without a definition of its own: its byte range, its name and its alias
pub record UseValue : Type 0 where
  pub from : ℕ
  pub to : ℕ
  pub name : List ℕ
  pub alias : List ℕ

-- what contracts see of such a placeholder
abbrev pub use_view : Use → UseValue
use_view u = record { from = u.range.start; to = u.range.end; name = u.name.now; alias = u.alias.now }

-- the placeholder that a piece is, if it has no definition of its own
abbrev pub use_of : Piece → Option UseValue
use_of (Regular from to text) = None
use_of (Malformed fault) = None
use_of (Placeholder from to pattern parts) = if is_empty parts.definition
    then Some (record { from = from; to = to; name = parts.name; alias = parts.alias }) else None

-- THE USES of definitions in a text: its placeholders without a definition of their own, in its order
abbrev pub uses_in : List ℕ → List UseValue
uses_in text = filter_map use_of (pieces text)
