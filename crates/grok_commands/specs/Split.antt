-- What `split` prints of a piece.
use Rattle.std.specs.Prelude.{◌≡◌, ℕ, List, ◌++◌, codes}
use Rattle.grok_parser.specs.Pieces.{Piece}
use Rattle.grok_parser.specs.Texts.{IsPieceText}

-- `line` is what Display shows of the piece, and a line feed
abbrev pub IsPieceLine : Piece → List ℕ → Type 0
IsPieceLine piece line = (text : List ℕ) × IsPieceText piece text × (line ≡ text ++ codes "\n")
