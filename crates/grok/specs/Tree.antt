-- The expansion of a pattern: what each placeholder stands for, and the list of everything that is read, in
-- order.
use Rattle.std.specs.Prelude.{ℕ, zero, suc, Bool, true, false, not, ◌&&◌, List, [], ◌∷◌, ◌++◌, if◌then◌else◌, Option, Some, None}
use Rattle.std.specs.Str.{bytes_eq}
use Rattle.grok_parser.specs.declared.malformed.GrokPatternError.{GrokPatternError}
use Rattle.grok_parser.specs.Pieces.{Parts, Piece, Regular, Placeholder, Malformed, pieces}

-- ---- what pieces stand for

-- Whether a part of a placeholder is missing. A missing part is the empty text.
abbrev pub is_absent : List ℕ → Bool
is_absent [] = true
is_absent (x ∷ xs) = false

-- a structural fault: a malformed placeholder, a name without a definition, or too deep a nesting
pub data Fault : Type 0 where
  MalformedPiece : (fault : GrokPatternError) → Fault
  Missing : (name : List ℕ) → Fault
  TooDeep : Fault

-- the name, alias and extract of a placeholder
pub record Label : Type 0 where
  pub name : List ℕ
  pub alias : List ℕ
  pub extract : List ℕ

-- what a placeholder stands for: an inline definition of its text, or the stored definition of its name
pub data Meaning : Type 0 where
  Inline : (text : List ℕ) → Meaning
  Stored : (text : List ℕ) → Meaning

-- the text of the definition that a placeholder stands for
abbrev pub meaning_text : Meaning → List ℕ
meaning_text (Inline text) = text
meaning_text (Stored text) = text

-- A piece whose placeholder is resolved to its definition. Which item a piece becomes depends only on the text that
-- it is a piece of and on the definitions, and not on where that text is used.
pub data Item : Type 0 where
  TextItem : (text : List ℕ) → Item
  FaultItem : (fault : Fault) → Item
  PlaceholderItem : (label : Label) (meaning : Meaning) → Item

-- the name of a placeholder and the definition that it stands for
abbrev pub definition_of : Item → Option (List ℕ × List ℕ)
definition_of (TextItem text) = None
definition_of (FaultItem fault) = None
definition_of (PlaceholderItem label meaning) = Some (label.name, meaning_text meaning)

-- the definition of each name that has one
abbrev pub Definitions : Type 0
Definitions = List ℕ → Option (List ℕ)

abbrev pub no_definitions : Definitions
no_definitions name = None

-- The inline definitions after a placeholder with these parts. If it has a definition, that replaces an earlier
-- one of its name.
abbrev pub with_written : Definitions → Parts → Definitions
with_written written parts name = if bytes_eq parts.name name && not (is_absent parts.definition)
    then Some parts.definition else written name

-- The item of a placeholder: it stands for the inline definition if there is one, or else for the stored one.
-- If there is neither, its name is missing.
abbrev pub resolved : Label → Option (List ℕ) → Option (List ℕ) → Item
resolved label (Some text) stored = PlaceholderItem label (Inline text)
resolved label None (Some text) = PlaceholderItem label (Stored text)
resolved label None None = FaultItem (Missing label.name)

-- the name, alias and extract among these parts
abbrev pub label_of : Parts → Label
label_of parts = record { name = parts.name; alias = parts.alias; extract = parts.extract }

-- RESOLUTION: a placeholder stands for its own definition, or else for the last inline definition of its
-- name before it in this text, or else for the stored one.
abbrev pub placeholder_item : Definitions → Definitions → Parts → Item
placeholder_item stored written parts = resolved (label_of parts) (with_written written parts parts.name)
    (stored parts.name)

-- the items of these pieces, if the pieces before them have the inline definitions `written`
abbrev pub items_after : Definitions → Definitions → List Piece → List Item
items_after stored written [] = []
items_after stored written (Regular s e text ∷ ps) = TextItem text ∷ items_after stored written ps
items_after stored written (Placeholder s e text parts ∷ ps) = placeholder_item stored written parts ∷ items_after stored (with_written written parts) ps
items_after stored written (Malformed fault ∷ ps) = FaultItem
    (MalformedPiece fault) ∷ items_after stored written ps

-- THE ITEMS of a text. At its start there are no inline definitions.
abbrev pub items_of : Definitions → List ℕ → List Item
items_of stored text = items_after stored no_definitions (pieces text)

-- ---- events

-- One entry of the list that a tree is: regular text, the open of a placeholder, the close after its
-- definition, or a fault.
pub data Event : Type 0 where
  Text : (text : List ℕ) → Event
  Open : (label : Label) (meaning : Meaning) → Event
  Close : Event
  FaultEvent : (fault : Fault) → Event

-- The events of items. `inside` says what follows an open: the events of its definition and then its close, or
-- a fault.
abbrev pub events : (List ℕ → List Event) → List Item → List Event
events inside [] = []
events inside (TextItem text ∷ items) = Text text ∷ events inside items
events inside (FaultItem fault ∷ items) = FaultEvent fault ∷ events inside items
events inside (PlaceholderItem label meaning ∷ items) = Open label meaning ∷ inside (meaning_text meaning)
    ++ events inside items

-- What follows the open of a placeholder that stands for this text: the events of the text and a close. The number is
-- how many levels are left, that of the placeholder among them. If none is left, a fault follows instead.
abbrev pub inside : (List ℕ → List Item) → ℕ → List ℕ → List Event
inside items zero text = FaultEvent TooDeep ∷ []
inside items (suc levels_left) text = events (inside items levels_left) (items text) ++ Close ∷ []

-- the events of a pattern, if `levels_left` levels are allowed
abbrev pub tree_within : ℕ → (List ℕ → List Item) → List ℕ → List Event
tree_within levels_left items pattern = events (inside items levels_left) (items pattern)

-- how many placeholders may be nested in one another
abbrev pub deepest : ℕ
deepest = 1023

-- THE TREE of a pattern, as the list of its events. A nesting of `deepest` levels is allowed.
unfoldable pub tree : Definitions → List ℕ → List Event
tree stored pattern = tree_within deepest (items_of stored) pattern

-- the first fault event; a tree is clean if it has none
abbrev pub first_structural : List Event → Option Fault
first_structural [] = None
first_structural (Text text ∷ events) = first_structural events
first_structural (Open label meaning ∷ events) = first_structural events
first_structural (Close ∷ events) = first_structural events
first_structural (FaultEvent fault ∷ events) = Some fault

-- the events before the first fault event, or all of a clean tree
abbrev pub reached : List Event → List Event
reached [] = []
reached (Text text ∷ events) = Text text ∷ reached events
reached (Open label meaning ∷ events) = Open label meaning ∷ reached events
reached (Close ∷ events) = Close ∷ reached events
reached (FaultEvent fault ∷ events) = []
