-- The known part of each definition, which is read before the pattern.
use Rattle.std.specs.Prelude.{◌≡◌, ℕ, ◌<◌, ◌≤◌, Bool, true, false, List, [], ◌∷◌, ◌++◌, length, map, drop, Option, Some, None, MatchOption, if◌then◌else◌}
use Rattle.std.specs.FinMap as finite
use Rattle.std.specs.Ordering.{nat_cmp}
use Rattle.std.specs.Cmp.Lexicographic.{slice_cmp}
use Rattle.std.specs.BTreeMap.{BTreeMap, get_by}
use Rattle.std.specs.Borrow.{Bor}
use Rattle.grok.specs.Tree.{Inline, Stored, Item, TextItem, FaultItem, PlaceholderItem, Event, events, inside, items_of, first_structural, Label}
use Rattle.grok.specs.Keys.{capturing, is_capturing, base_key}
use Rattle.grok.specs.Items.{item_view}
use Rattle.grok.specs.steps.Rows.{part_keys, flat, AreBelow, AreKeysOfParts}
use Rattle.grok.specs.declared.defs.items.Item.{Item as CodeItem}
use Rattle.grok.specs.declared.expand.rows.Row.{Row}
use Rattle.grok.specs.declared.settings.Settings.{Settings}
use Rattle.grok.specs.declared.expand.known_parts.KnownItems.{KnownItems}
use Rattle.grok.specs.declared.expand.known_parts.ReadText.{ReadText}
use Rattle.grok.specs.declared.expand.known_parts.KnownPart.{KnownPart}
use Rattle.grok.specs.declared.expand.known_parts.KnownParts.{KnownParts}

-- the items of a text, with these definitions
abbrev pub resolve : Settings → List ℕ → List Item
resolve settings = items_of (finite.get settings.grok.now)

-- The events after the open of a placeholder that stands for a text, up to its close. This many levels are allowed, and
-- the placeholder takes one of them.
abbrev pub opened_events : Settings → ℕ → List ℕ → List Event
opened_events settings = inside (resolve settings)

-- ---- base keys

-- the base keys (the keys before their numbers are added) of the capturing placeholders among these events
abbrev pub used_keys : Settings → List Event → List (List ℕ)
used_keys settings es = map base_key (capturing settings.with_alias_only es)

-- the base key of a placeholder, if it captures
abbrev pub own_keys : Settings → Label → List (List ℕ)
own_keys settings label = if is_capturing settings.with_alias_only label then base_key label ∷ [] else []

-- The rows `new` are those of `old`, and after them rows that stand for the base keys `keys`.
pub record AddKeys (done : List (List (List ℕ))) (old new : List Row) (keys : List (List ℕ)) : Type 0 where
  pub adds : flat done new ≡ flat done old ++ keys
  pub below : AreBelow (length done) old → AreBelow (length done) new

-- These events have no structural fault, and `keys` are the base keys of their capturing placeholders.
pub record HaveKeys (settings : Settings) (es : List Event) (keys : List (List ℕ)) : Type 0 where
  pub clean : first_structural es ≡ None
  pub used : used_keys settings es ≡ keys

-- if at least `height` levels are allowed, these items have no structural fault, and they use the base keys `keys`
abbrev pub AreKnownItems : Settings → List Item → ℕ → List (List ℕ) → Type 0
AreKnownItems settings items height keys = (levels : ℕ) → height ≤ levels
    → HaveKeys settings (events (opened_events settings levels) items) keys

-- if more than `height` levels are allowed, this text has no structural fault, and it uses the base keys `keys`
abbrev pub IsKnownText : Settings → List ℕ → ℕ → List (List ℕ) → Type 0
IsKnownText settings text height keys = (levels : ℕ) → height < levels
    → HaveKeys settings (opened_events settings levels text) keys

-- ---- items of a text

-- What is true of every item of a text (a piece with its placeholder resolved to its definition): a stored definition
-- is that of the placeholder's name, and an inline definition has no structural fault if a level is left for it, and
-- no placeholder.
abbrev pub IsSoundItem : Settings → Item → Type 0
IsSoundItem settings (TextItem text) = Unit {0}
IsSoundItem settings (FaultItem fault) = Unit {0}
IsSoundItem settings (PlaceholderItem label (Inline text)) = IsKnownText settings text 0 []
IsSoundItem settings (PlaceholderItem label (Stored text)) = finite.get settings.grok.now label.name ≡ Some text

-- the items, and after them one more if it is known
abbrev pub with_item : Bool → List Item → Item → List Item
with_item true items item = items ++ item ∷ []
with_item false items item = items

-- what `known` states about these items is true
pub record IsKnownOf (settings : Settings) (done : List (List (List ℕ))) (items : List Item) (known : KnownItems) : Type 0 where
  pub below : AreBelow (length done) known.rows.items
  pub are_known : AreKnownItems settings items known.height (flat done known.rows.items)

-- Reading a text stopped after these items, at the item `stop` if there is one. After it come the items of the text
-- without its first `read` ones.
abbrev pub IsCutAt : Settings → List ℕ → List Item → Option CodeItem → ℕ → Type 0
IsCutAt settings text items stop read = MatchOption stop (resolve settings text ≡ items)
    (λ item. resolve settings text ≡ items ++ item_view item ∷ drop read (resolve settings text))

-- `text_read` is what was read of the text: all of its items, or those before the first one that may have a fault
pub record IsReadOf (settings : Settings) (done : List (List (List ℕ))) (text : List ℕ) (text_read : ReadText) : Type 0 where
  pub items : List Item
  pub cut : IsCutAt settings text items text_read.stop text_read.read
  pub is_known : IsKnownOf settings done items text_read.known

-- ---- parts

-- `part` is the known part of the text: all of its items, or those before the first one that may have a fault
pub record IsKnownPartOf (settings : Settings) (done : List (List (List ℕ))) (text : List ℕ) (part : KnownPart) : Type 0 where
  pub within : part.index < length done
  pub items : List Item
  pub cut : IsCutAt settings text items part.stop part.read
  pub are_known : AreKnownItems settings items part.height (part_keys done part.index)

-- the known part of the definition of a name
abbrev pub known_part_of : BTreeMap (Bor (List ℕ)) KnownPart → List ℕ → Option KnownPart
known_part_of by_name name = get_by (λ (key : Bor (List ℕ)). slice_cmp nat_cmp name key.now) by_name

-- `done` has the base keys of each part, and what is kept for each name is the known part of its definition
pub record AreKnown (settings : Settings) (parts : KnownParts) : Type 0 where
  pub done : List (List (List ℕ))
  pub are_keys : AreKeysOfParts parts.rows.items done
  pub known : (name text : List ℕ) (part : KnownPart) → known_part_of parts.by_name name ≡ Some part
      → finite.get settings.grok.now name ≡ Some text → IsKnownPartOf settings done text part
