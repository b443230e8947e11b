-- What the search for a byte of the expanded text passes over, and what it stops at.
use Rattle.std.specs.Prelude.{◌≡◌, ℕ, ◌<◌, ◌≤◌, Bool, List, [], ◌∷◌, ◌++◌, length}
use Rattle.grok.specs.Tree.{Item, TextItem, FaultItem, PlaceholderItem, Event}
use Rattle.grok.specs.Expanded.{expanded, groups}
use Rattle.grok.specs.steps.Sizes.{Size, length_of}
use Rattle.grok.specs.steps.MeasureCache.{shown}
use Rattle.grok.specs.ByteLocations.{IsPartOf}
use Rattle.grok.specs.declared.measure.partial_size.PartialSize.{PartialSize}
use Rattle.grok.specs.declared.locate_byte.WrittenByte.{WrittenByte}
use Rattle.grok.specs.declared.locate_byte.ByteSearch.{ByteSearch}

-- `sum` has the number of bytes and of groups that the events write. Its height may be any.
pub record IsSizeOf (alias_only : Bool) (sum : PartialSize) (events : List Event) : Type 0 where
  pub size : Size
  pub shows : sum ≡ shown size
  pub counts : groups alias_only events ≡ size.groups
  pub bytes : length (expanded alias_only events) ≡ length_of size

-- All that the events `before` write ends at or before the position `byte`, and `sum` is the size of what they write.
pub record IsLater (alias_only : Bool) (before : List Event) (byte : ℕ) (sum : PartialSize) : Type 0 where
  pub size : IsSizeOf alias_only sum before
  pub passed : length (expanded alias_only before) ≤ byte

-- the byte comes after all that the events `es` write
pub record HasPassedBytes (start : ByteSearch) (es : List Event) (now : ByteSearch) : Type 0 where
  pub measurer : now.measurer ≡ start.measurer
  pub byte : now.byte ≡ start.byte
  pub later : IsLater start.measurer.now.settings.with_alias_only es start.byte now.before

-- all that is written up to the end of this event, after the events `es`, goes beyond the byte
abbrev pub WritesByte : ByteSearch → List Event → Event → Type 0
WritesByte start es event = start.byte < length (expanded start.measurer.now.settings.with_alias_only (es ++ event ∷ []))

-- What is reported of an item that has an event that writes a byte. A malformed piece has none.
abbrev pub IsPartOfItem : ℕ → Item → WrittenByte → Type 0
IsPartOfItem offset (TextItem text) part = IsPartOf offset (TextItem text) part
IsPartOfItem offset (FaultItem fault) part = Unit {0}
IsPartOfItem offset (PlaceholderItem label meaning) part = IsPartOf offset (PlaceholderItem label meaning) part
