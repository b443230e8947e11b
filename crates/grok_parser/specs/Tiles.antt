-- How the pieces of a text lie side by side in it.
use Rattle.std.specs.Prelude.{◌≡◌, ℕ, ◌<◌, ◌≤◌, List, [], ◌∷◌, length, slice_range}
use Rattle.grok_parser.specs.Pieces.{Piece, Regular, Placeholder, Malformed}

-- The range from a to e begins at s, isn't empty, ends within T, and has this text.
pub record IsTile (T : List ℕ) (s a e : ℕ) (text : List ℕ) : Type 0 where
  pub begins : a ≡ s
  pub nonempty : a < e
  pub within : e ≤ length T
  pub reads : text ≡ slice_range T a e

-- The ranges of the pieces lie side by side in T from s on. Each begins where the one before ends, a fault
-- is the last piece, and without a fault the last range ends where T ends.
abbrev pub Tile : List ℕ → ℕ → List Piece → Type 0
Tile T s [] = s ≡ length T
Tile T s (Regular a e text ∷ ps) = IsTile T s a e text × Tile T e ps
Tile T s (Placeholder a e text parts ∷ ps) = IsTile T s a e text × Tile T e ps
Tile T s (Malformed f ∷ ps) = ps ≡ []
