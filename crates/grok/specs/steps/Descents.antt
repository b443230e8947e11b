-- What a search for an event in the tree of a pattern finds.
use Rattle.std.specs.Prelude.{◌≡◌, ℕ, suc, List, [], ◌∷◌, ◌++◌, map, Option, MatchOption}
use Rattle.grok.specs.Tree.{Definitions, Label, Meaning, Item, PlaceholderItem, Event, Open, items_of, events, inside, tree, deepest}
use Rattle.grok.specs.Items.{item_view, meaning_view}
use Rattle.grok.specs.FaultLocations.{path_view}
use Rattle.grok.specs.FaultLocations as location
use Rattle.grok.specs.ByteLocations.{IsOwnEvent, IsEventAt}
use Rattle.grok.specs.steps.Searches.{Passing, Seeking}
use Rattle.grok.specs.declared.descend.Opened.{Opened}
use Rattle.grok.specs.declared.descend.Place.{Place}
use Rattle.grok.specs.declared.descend.Step.{Step}
use Rattle.grok.specs.declared.descend.Step.TheVariants as step

-- the search stops at this event
abbrev pub Stopping : Type 0 → Type 1
Stopping S = S → Event → Type 0

-- the search stops at an event of the item itself, and not of what it stands for
pub record StopsInItem {S : Type 0} (passes : Passing S) (stops : Stopping S) (stored : Definitions) (levels : ℕ)
    (item : Item) (old new : S) : Type 0 where
  pub own : List Event
  pub event : Event
  pub is_own : IsOwnEvent stored levels item own event
  pub passed : passes old own new
  pub stopped : stops new event

-- the item is a placeholder, and what it stands for is entered
pub record EntersItem {S : Type 0} (passes : Passing S) (levels : ℕ) (item : Item) (name : List ℕ) (meaning : Meaning)
    (old new : S) : Type 0 where
  pub label : Label
  pub is : item ≡ PlaceholderItem label meaning
  pub named : label.name ≡ name
  pub below : ℕ
  pub room : levels ≡ suc below
  pub passed : passes old (Open label meaning ∷ []) new

-- one step at an event of an item
abbrev pub IsEventStep : {S : Type 0} → Passing S → Stopping S → Event → Step → S → S → Type 0
IsEventStep passes stops event step.Passed old new = passes old (event ∷ []) new
IsEventStep passes stops event step.Stopped old new = stops old event × (new ≡ old)
IsEventStep passes stops event (step.Entered name meaning) old new = ⊥

-- one step at an item
abbrev pub IsStep : {S : Type 0} → Passing S → Stopping S → Definitions → ℕ → Item → Step → S → S → Type 0
IsStep passes stops stored levels item step.Passed old new = passes old (events (inside (items_of stored) levels) (item ∷ [])) new
IsStep passes stops stored levels item step.Stopped old new = StopsInItem passes stops stored levels item old new
IsStep passes stops stored levels item (step.Entered name meaning) old new =
    EntersItem passes levels item name.now (meaning_view meaning) old new

-- the placeholder whose definition is entered, as a step of a path
abbrev pub step_of : Opened → location.Step
step_of opened = record { name = opened.name.now; from = opened.placed.range.start; to = opened.placed.range.end }

-- the placeholders whose definitions are entered, outermost first
abbrev pub path_of : List Opened → List location.Step
path_of around = map step_of around

-- THE PLACE that a search finds in a pattern's tree. The tree is cut at an event. The search passed over all events
-- before it, it is the sought one, and it is an event of the piece at this place.
pub record IsFoundAt {S : Type 0} (has_passed : Passing S) (is_sought : Seeking S) (stored : Definitions) (pattern : List ℕ)
    (place : Place) (old new : S) : Type 0 where
  pub before : List Event
  pub event : Event
  pub after : List Event
  pub cut : tree stored pattern ≡ before ++ event ∷ after
  pub passed : has_passed old before new
  pub sought : is_sought old before event
  pub stands : IsEventAt stored deepest pattern (path_view place.location.path.items) place.location.text.now place.location.range.start
      place.location.range.end (item_view place.item) before event

-- what a search returns: the place of the sought event, or `None` if it passed over the whole tree
abbrev pub FindsPlace : {S : Type 0} → Passing S → Seeking S → Definitions → List ℕ → Option Place → S → S → Type 0
FindsPlace has_passed is_sought stored pattern found old new = MatchOption found (has_passed old (tree stored pattern) new)
    (λ place. IsFoundAt has_passed is_sought stored pattern place old new)
