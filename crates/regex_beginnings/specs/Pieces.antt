-- The pieces of a regular expression, and the texts of its beginnings.
use Rattle.std.specs.Prelude.{◌≡◌, ℕ, ◌-◌, ◌==◌, ◌≤◌, List, [], ◌++◌, Option, Some, None, if◌then◌else◌, codes, length, slice_get, take}
use Rattle.std.specs.List.{All, repeat}
use Rattle.std.specs.List.Sorted.{IsNonDecreasingBy}
use Rattle.regex_beginnings.specs.declared.pieces.Piece.{Piece}

-- The text up to the end of a piece, with a `)` for each group that is still open there.
abbrev pub text_upto : Piece → List ℕ
text_upto piece = piece.upto.now ++ repeat piece.depth (codes ")")

abbrev pub text_upto_last : Option Piece → List ℕ
text_upto_last None = []
text_upto_last (Some piece) = text_upto piece

-- THE BEGINNING of `count` pieces: the text up to the end of the last of them. The beginning of no piece is empty.
abbrev pub beginning_text : List Piece → ℕ → List ℕ
beginning_text pieces count = if count == 0 then [] else text_upto_last (slice_get pieces (count - 1))

-- Where a piece ends.
abbrev pub end_of : Piece → ℕ
end_of piece = length piece.upto.now

-- A part of the text that begins before it ends. Its `upto` is what the text has before its end.
abbrev pub IsPieceOf : List ℕ → Piece → Type 0
IsPieceOf text piece = (take (end_of piece) text ≡ piece.upto.now) × (piece.start ≤ end_of piece)

-- THE PIECES are parts of the text, in the order of their ends.
abbrev pub ArePiecesOf : List ℕ → List Piece → Type 0
ArePiecesOf text pieces = All (IsPieceOf text) pieces × IsNonDecreasingBy end_of pieces
