-- What each step does on the way to the first structural fault.
use Rattle.std.specs.Prelude.{◌≡◌, ℕ, ◌-◌, ◌<◌, List, ◌∷◌, [], ◌++◌, Some, None}
use Rattle.grok.specs.Tree.{Fault, Label, Meaning, meaning_text, Item, PlaceholderItem, Event, Open, events, first_structural, reached}
use Rattle.grok.specs.steps.KnownParts.{resolve, opened_events, used_keys, AddKeys}
use Rattle.grok.specs.declared.expand.rows.Row.{Row}
use Rattle.grok.specs.declared.settings.Settings.{Settings}
use Rattle.grok.specs.declared.expand.read_rows.ReadStep.{ReadStep}
use Rattle.grok.specs.declared.expand.read_rows.ReadStep.TheVariants.{Skip, Enter, Stop}

-- None of the events `es` is a fault. The rows `new` are those of `old`, and after them rows for the capturing
-- placeholders among these events.
pub record ArePassed (settings : Settings) (done : List (List (List ℕ))) (es : List Event) (old new : List Row) : Type 0 where
  pub clean : first_structural es ≡ None
  pub adds : AddKeys done old new (used_keys settings es)

-- One of the events `es` is a fault. The rows `new` are those of `old`, and after them rows for the capturing
-- placeholders before the first fault.
pub record HaveFault (settings : Settings) (done : List (List (List ℕ))) (es : List Event) (old new : List Row) : Type 0 where
  pub fault : Fault
  pub is : first_structural es ≡ Some fault
  pub adds : AddKeys done old new (used_keys settings (reached es))

-- the events of items of a definition, if `levels` levels are allowed, of which its placeholder takes one
abbrev pub events_inside : Settings → ℕ → List Item → List Event
events_inside settings levels = events (opened_events settings (levels - 1))

-- The definition `text` is entered, since a level is left. Its first items, `skipped`, are passed. Its other items,
-- `items`, remain to be read.
pub record EntersText (settings : Settings) (done : List (List (List ℕ))) (levels : ℕ) (text : List ℕ)
    (items : List Item) (old new : List Row) : Type 0 where
  pub room : 0 < levels
  pub skipped : List Item
  pub cut : resolve settings text ≡ skipped ++ items
  pub passed : ArePassed settings done (events_inside settings levels skipped) old new

-- one step at the text of a placeholder: skip it, enter it, or stop
abbrev pub StepsAtText : Settings → List (List (List ℕ)) → ℕ → List ℕ → List Row → List Row → ReadStep → Type 0
StepsAtText settings done levels text old new Skip = ArePassed settings done (opened_events settings levels text) old new
StepsAtText settings done levels text old new (Enter items) = EntersText settings done levels text items old new
StepsAtText settings done levels text old new Stop = HaveFault settings done (opened_events settings levels text) old new

-- The item is a placeholder, and its definition is entered. The placeholder and the first items of that definition,
-- `skipped`, are passed. The other items of it, `items`, remain to be read.
pub record EntersPlaceholder (settings : Settings) (done : List (List (List ℕ))) (levels : ℕ) (item : Item)
    (items : List Item) (old new : List Row) : Type 0 where
  pub label : Label
  pub meaning : Meaning
  pub is : item ≡ PlaceholderItem label meaning
  pub room : 0 < levels
  pub skipped : List Item
  pub cut : resolve settings (meaning_text meaning) ≡ skipped ++ items
  pub passed : ArePassed settings done (Open label meaning ∷ events_inside settings levels skipped) old new

-- one step at an item: skip it with its definition, enter the definition, or stop
abbrev pub StepsAtItem : Settings → List (List (List ℕ)) → ℕ → Item → List Row → List Row → ReadStep → Type 0
StepsAtItem settings done levels item old new Skip =
    ArePassed settings done (events (opened_events settings levels) (item ∷ [])) old new
StepsAtItem settings done levels item old new (Enter items) = EntersPlaceholder settings done levels item items old new
StepsAtItem settings done levels item old new Stop =
    HaveFault settings done (events (opened_events settings levels) (item ∷ [])) old new
