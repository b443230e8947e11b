-- Which piece of a pattern, or of one of its definitions, writes a byte of the expanded text.
use Rattle.std.specs.Prelude.{◌≡◌, ◌<◌, ◌+◌, ℕ, zero, suc, Bool, List, [], ◌∷◌, ◌++◌, length, Option, None, MatchOption}
use Rattle.grok.specs.Tree.{Definitions, Label, Meaning, meaning_text, Fault, TooDeep, Item, TextItem, FaultItem, PlaceholderItem, Event, Text, Open, Close, FaultEvent, items_of, events, inside, deepest, tree, first_structural}
use Rattle.grok.specs.Expanded.{expanded}
use Rattle.grok.specs.FaultLocations.{Step, IsPieceAt, path_view}
use Rattle.grok.specs.declared.locate_byte.WrittenByte.{WrittenByte}
use Rattle.grok.specs.declared.locate_byte.WrittenByte.TheVariants as written
use Rattle.grok.specs.declared.locate_byte.ByteLocation.{ByteLocation}

-- `event` is an event of the item itself (a piece with its placeholder resolved to its definition), and not of that
-- definition: regular text, the open or the close of a placeholder, or a fault of the piece. `own` has the events of the item before
-- `event`, and `levels` levels are left.
pub data IsOwnEvent (stored : Definitions) : (levels : ℕ) (item : Item) (own : List Event) (event : Event) → Type 0 where
  Regular : (levels : ℕ) (part : List ℕ) → IsOwnEvent stored levels (TextItem part) [] (Text part)
  Opening : (levels : ℕ) (label : Label) (meaning : Meaning)
      → IsOwnEvent stored levels (PlaceholderItem label meaning) [] (Open label meaning)
  Closing : (levels : ℕ) (label : Label) (meaning : Meaning)
      → IsOwnEvent stored (suc levels) (PlaceholderItem label meaning)
      (Open label meaning ∷ events (inside (items_of stored) levels) (items_of stored (meaning_text meaning))) Close
  Broken : (levels : ℕ) (fault : Fault) → IsOwnEvent stored levels (FaultItem fault) [] (FaultEvent fault)
  Deep : (label : Label) (meaning : Meaning)
      → IsOwnEvent stored zero (PlaceholderItem label meaning) (Open label meaning ∷ []) (FaultEvent TooDeep)

-- WHERE AN EVENT COMES FROM, if `levels` levels are left in the text. `path` leads from `text` to the text `found`.
-- The piece of `found` at the byte range from `from` to `to` has the item `item`, `event` is an event of that item,
-- and `before` has all events before it. There are two cases. Either the piece is one of `text` itself. Or it is
-- inside a placeholder of `text`: then the path begins with that placeholder, and its rest leads from
-- what the placeholder stands for to the piece.
pub data IsEventAt (stored : Definitions) : (levels : ℕ) (text : List ℕ) (path : List Step)
    (found : List ℕ) (from to : ℕ) (item : Item) (before : List Event) (event : Event) → Type 0 where
  Here : (levels : ℕ) (text : List ℕ) (items : List Item) (from to : ℕ) (item : Item) (own : List Event)
      (event : Event)
      → IsPieceAt stored text items from to item
      → IsOwnEvent stored levels item own event
      → IsEventAt stored levels text [] text from to item (events (inside (items_of stored) levels) items ++ own) event
  Inside : (levels : ℕ) (text : List ℕ) (items : List Item) (begin end : ℕ) (label : Label)
      (meaning : Meaning) (path : List Step) (found : List ℕ) (from to : ℕ) (item : Item)
      (before : List Event) (event : Event)
      → IsPieceAt stored text items begin end (PlaceholderItem label meaning)
      → IsEventAt stored levels (meaning_text meaning) path found from to item before event
      → IsEventAt stored (suc levels) text (record { name = label.name; from = begin; to = end } ∷ path) found from to item
      (events (inside (items_of stored) (suc levels)) items ++ Open label meaning ∷ before) event

-- What is reported of the byte that comes `offset` bytes after the start of what the item's event writes. Regular
-- text is copied.
pub data IsPartOf (offset : ℕ) : (item : Item) → WrittenByte → Type 0 where
  Copied : (part : List ℕ) → IsPartOf offset (TextItem part) (written.Copied offset)
  OfGroup : (label : Label) (meaning : Meaning) → IsPartOf offset (PlaceholderItem label meaning) written.OfGroup

-- THE LOCATION of the byte at the position `byte` of a pattern's expanded text. The tree of the pattern (what its
-- placeholders stand for, as events) has no structural fault. It is cut at the event that writes the byte: the
-- events before it write at most `byte` bytes, and together with this event they write more.
pub record IsByteLocation (stored : Definitions) (alias_only : Bool) (pattern : List ℕ) (byte : ℕ)
    (path : List Step) (text : List ℕ) (from to : ℕ) (part : WrittenByte) : Type 0 where
  pub clean : first_structural (tree stored pattern) ≡ None
  pub item : Item
  pub before : List Event
  pub event : Event
  pub after : List Event
  pub offset : ℕ
  pub cut : tree stored pattern ≡ before ++ event ∷ after
  pub begins : byte ≡ length (expanded alias_only before) + offset
  pub ends : byte < length (expanded alias_only (before ++ event ∷ []))
  pub stands : IsEventAt stored deepest pattern path text from to item before event
  pub is : IsPartOf offset item part

-- the pattern with this tree has no structural fault, and its expanded text has a byte at the position `byte`
pub record HasByte (alias_only : Bool) (tree : List Event) (byte : ℕ) : Type 0 where
  pub clean : first_structural tree ≡ None
  pub within : byte < length (expanded alias_only tree)

-- What locating a byte returns: its location, or `None` if the pattern has a structural fault or its expanded text
-- has no byte at that position.
abbrev pub LocatesByte : Definitions → Bool → List ℕ → ℕ → Option ByteLocation → Type 0
LocatesByte stored alias_only pattern byte found = MatchOption found
    (HasByte alias_only (tree stored pattern) byte → ⊥)
    (λ location. IsByteLocation stored alias_only pattern byte (path_view location.location.path.items)
    location.location.text.now location.location.range.start location.location.range.end location.part)
