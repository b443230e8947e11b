-- What was read of a text whose items are taken with their byte ranges.
use Rattle.std.specs.Prelude.{◌≡◌, List, ◌++◌, length, Some}
use Rattle.std.specs.FinMap as finite
use Rattle.grok_parser.specs.Pieces.{Piece, pieces}
use Rattle.grok.specs.Tree.{Definitions, Stored, Inline, Item, TextItem, FaultItem, PlaceholderItem, items_of, items_after}
use Rattle.grok.specs.Items.{written_in}
use Rattle.grok.specs.FaultLocations.{end_of_all}
use Rattle.grok.specs.declared.defs.placed_items.PlacedItems.{PlacedItems}

-- the remaining items
abbrev pub left_in : PlacedItems → List Item
left_in items = items_after (finite.get items.grok.now) (written_in items.written) items.source

-- `before` has the items that were read of the text, and the next piece begins where the last one ended
pub record HasRead (stored : Definitions) (before : List Item) (items : PlacedItems) : Type 0 where
  pub library : stored ≡ finite.get items.grok.now
  pub pieces_before : List Piece
  pub pieces_are : pieces items.text.now ≡ pieces_before ++ items.source
  pub items_are : items_of stored items.text.now ≡ before ++ left_in items
  pub same : length before ≡ length pieces_before
  pub begins : items.begin ≡ end_of_all items.text.now 0 pieces_before

-- a stored definition is that of the placeholder's name
abbrev pub IsOfLibrary : Definitions → Item → Type 0
IsOfLibrary stored (TextItem text) = Unit {0}
IsOfLibrary stored (FaultItem fault) = Unit {0}
IsOfLibrary stored (PlaceholderItem label (Inline text)) = Unit {0}
IsOfLibrary stored (PlaceholderItem label (Stored text)) = stored label.name ≡ Some text
