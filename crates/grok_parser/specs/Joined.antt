-- The texts of a list of pieces, one after another.
use Rattle.std.specs.Prelude.{List, [], ◌∷◌, ◌++◌, ℕ}
use Rattle.grok_parser.specs.Pieces.{Piece, Regular, Placeholder, Malformed}

-- The texts of the pieces, joined. A malformed placeholder has no text.
abbrev pub joined_pieces : List Piece → List ℕ
joined_pieces [] = []
joined_pieces (Regular a e text ∷ ps) = text ++ joined_pieces ps
joined_pieces (Placeholder a e text parts ∷ ps) = text ++ joined_pieces ps
joined_pieces (Malformed f ∷ ps) = joined_pieces ps

-- no piece is a malformed placeholder
abbrev pub AreWellFormed : List Piece → Type 0
AreWellFormed [] = Unit {0}
AreWellFormed (Regular a e text ∷ ps) = AreWellFormed ps
AreWellFormed (Placeholder a e text parts ∷ ps) = AreWellFormed ps
AreWellFormed (Malformed f ∷ ps) = ⊥

-- every piece is regular text
abbrev pub AreRegular : List Piece → Type 0
AreRegular [] = Unit {0}
AreRegular (Regular a e text ∷ ps) = AreRegular ps
AreRegular (Placeholder a e text parts ∷ ps) = ⊥
AreRegular (Malformed f ∷ ps) = ⊥
