-- The longest beginning that finds something in a line.
use Rattle.std.specs.Prelude.{◌≡◌, ◌⊎◌, ℕ, ◌+◌, ◌≤◌, Bool, not, ◌&&◌, nat_lt, List, [], Option, Some, None, filter, length}
use Rattle.regex_beginnings.specs.Finds.{FindsIn, FindsNothingIn}
use Rattle.regex_beginnings.specs.Pieces.{beginning_text, end_of}
use Rattle.regex_beginnings.specs.declared.pieces.Group.{Group}
use Rattle.regex_beginnings.specs.declared.pieces.Piece.{Piece}
use Rattle.regex_beginnings.specs.declared.beginnings.Beginnings.{Beginnings}

-- The pieces, in their order.
abbrev pub pieces_of : Beginnings → List Piece
pieces_of beginnings = beginnings.pieces.items

-- The groups, in the order in which they begin.
abbrev pub groups_of : Beginnings → List Group
groups_of beginnings = beginnings.groups.items

-- The group begins before the piece, and doesn't end before it.
abbrev pub is_around : Piece → Group → Bool
is_around piece group = nat_lt group.start piece.start && not (nat_lt group.end (end_of piece))

-- THE GROUPS AROUND A PIECE, in the order in which they begin.
abbrev pub groups_around : List Group → Option Piece → List Group
groups_around groups None = []
groups_around groups (Some piece) = filter (is_around piece) groups

-- WHERE THE LINE STOPS: the beginning of `count` pieces finds something in the line, and the one with the next piece finds
-- nothing. If no piece finds anything, `count` is 0, and if there is no next piece, all of them find something.
pub record IsLongestIn (line : List ℕ) (pieces : List Piece) (count : ℕ) : Type 0 where
  pub finds : (count ≡ 0) ⊎ FindsIn (beginning_text pieces count) line
  pub next : (count ≡ length pieces) ⊎ FindsNothingIn (beginning_text pieces (count + 1)) line
  pub most : count ≤ length pieces
