-- Where the first structural fault of a pattern stands: the placeholders that lead to it, and the byte range of the
-- piece that has it.
use Rattle.std.specs.Prelude.{◌≡◌, ℕ, zero, suc, List, [], ◌∷◌, ◌++◌, length, map, Option, Some, None}
use Rattle.grok_parser.specs.Pieces.{Piece, Regular, Placeholder, Malformed, pieces}
use Rattle.grok.specs.Tree.{Definitions, Fault, TooDeep, Label, Meaning, Stored, Item, FaultItem, PlaceholderItem, items_of, events, inside, deepest, first_structural}
use Rattle.grok.specs.declared.location.PathStep.{PathStep}
use Rattle.grok.specs.declared.location.Location.{Location}

-- ---- byte ranges

-- The byte position where a piece of the text ends. A malformed piece is the last one, and takes the rest of
-- the text.
abbrev pub end_of : List ℕ → Piece → ℕ
end_of text (Regular s e part) = e
end_of text (Placeholder s e part parts) = e
end_of text (Malformed fault) = length text

-- The byte position where the last of these pieces ends. They lie side by side, and the first begins at `from`.
abbrev pub end_of_all : List ℕ → ℕ → List Piece → ℕ
end_of_all text from [] = from
end_of_all text from (piece ∷ pieces) = end_of_all text (end_of text piece) pieces

-- The text has a piece at the byte range from `from` to `to`, and `item` is the item of that piece (the piece with
-- its placeholder resolved to its definition). `before` has the items of the pieces before it.
pub record IsPieceAt (stored : Definitions) (text : List ℕ) (before : List Item) (from to : ℕ)
    (item : Item) : Type 0 where
  pub pieces_before : List Piece
  pub piece : Piece
  pub pieces_after : List Piece
  pub after : List Item
  pub pieces : pieces text ≡ pieces_before ++ piece ∷ pieces_after
  pub items : items_of stored text ≡ before ++ item ∷ after
  pub same : length before ≡ length pieces_before
  pub begins : from ≡ end_of_all text 0 pieces_before
  pub ends : to ≡ end_of text piece

-- ---- paths

-- A placeholder that leads from a text to its definition: its name, and its byte range in the text that has it.
pub record Step : Type 0 where
  pub name : List ℕ
  pub from : ℕ
  pub to : ℕ

-- what contracts see of a step of a path
abbrev pub step_view : PathStep → Step
step_view step = record { name = step.name.now; from = step.range.start; to = step.range.end }

-- the placeholders of a path, outermost first
abbrev pub path_view : List PathStep → List Step
path_view path = map step_view path

-- ---- faults

-- the first structural fault of `items` and of the definitions that they stand for, if `levels` levels are left
abbrev pub fault_within : Definitions → ℕ → List Item → Option Fault
fault_within stored levels items = first_structural (events (inside (items_of stored) levels) items)

-- The fault of a piece itself, if this many levels are left: it is malformed, its name has no definition, or it
-- is a placeholder for which no level is left.
pub data IsOwnFault : ℕ → Item → Fault → Type 0 where
  Broken : (levels : ℕ) (fault : Fault) → IsOwnFault levels (FaultItem fault) fault
  Deep : (label : Label) (meaning : Meaning) → IsOwnFault zero (PlaceholderItem label meaning) TooDeep

-- WHERE A TEXT'S FIRST FAULT STANDS, if `levels` levels are left in the text. `path` leads from `text` to the text
-- `faulty`, whose piece at the byte range from `from` to `to` has the fault, and no piece before it has a fault.
-- There are two cases. Either the faulty piece is one of `text` itself. Or it is inside a placeholder of `text`:
-- then the path begins with that placeholder, and its rest leads from the definition of its name to the faulty
-- piece.
pub data IsFaultAt (stored : Definitions) : (levels : ℕ) (text : List ℕ) (path : List Step)
    (faulty : List ℕ) (from to : ℕ) (fault : Fault) → Type 0 where
  Here : (levels : ℕ) (text : List ℕ) (before : List Item) (from to : ℕ) (item : Item) (fault : Fault)
      → IsPieceAt stored text before from to item → fault_within stored levels before ≡ None
      → IsOwnFault levels item fault → IsFaultAt stored levels text [] text from to fault
  Inside : (levels : ℕ) (text : List ℕ) (before : List Item) (begin end : ℕ) (label : Label)
      (definition : List ℕ) (path : List Step) (faulty : List ℕ) (from to : ℕ) (fault : Fault)
      → IsPieceAt stored text before begin end (PlaceholderItem label (Stored definition))
      → stored label.name ≡ Some definition
      → fault_within stored (suc levels) before ≡ None
      → IsFaultAt stored levels definition path faulty from to fault
      → IsFaultAt stored (suc levels) text
      (record { name = label.name; from = begin; to = end } ∷ path) faulty from to fault

-- the first structural fault of the pattern stands at this location
abbrev pub IsFaultOf : Definitions → List ℕ → Fault → Location → Type 0
IsFaultOf stored pattern fault location = IsFaultAt stored deepest pattern (path_view location.path.items) location.text.now
    location.range.start location.range.end fault
