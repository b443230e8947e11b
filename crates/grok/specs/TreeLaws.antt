-- Laws of the definitions of placeholders, and of the faults of a tree.
use Rattle.std.specs.Prelude.{codes, ◌≡◌, ◌⊎◌, ℕ, suc, ◌+◌, Bool, true, false, List, [], ◌∷◌, ◌++◌, length, Some, None, slice_get}
use Rattle.grok_parser.specs.Pieces.{Parts, Piece, Regular, Placeholder, Malformed, pieces}
use Rattle.grok.specs.Tree.{Definitions, is_absent, Fault, Missing, label_of, Inline, resolved, PlaceholderItem, items_of, Event, Text, Open, Close, FaultEvent, tree, first_structural, reached}
use Rattle.grok.specs.GeneratedNames.{named_head, unnamed_head}
use Rattle.grok.specs.Expanded.{expanded}
use Rattle.grok.specs.Measured.{Faulty, measured_tree, reaches}

-- ---- inline definitions

-- none of the pieces is a placeholder that defines this name
abbrev pub NoneDefines : List ℕ → List Piece → Type 0
NoneDefines name [] = Unit {0}
NoneDefines name (Regular s e text ∷ ps) = NoneDefines name ps
NoneDefines name (Malformed fault ∷ ps) = NoneDefines name ps
NoneDefines name (Placeholder s e text parts ∷ ps) = (parts.name ≡ name → is_absent parts.definition ≡ true)
    × NoneDefines name ps

-- a placeholder with an inline definition is resolved to it
abbrev pub OwnDefinitionHolds : Type 0
OwnDefinitionHolds = (stored : Definitions) (text : List ℕ) (before after : List Piece) (s e : ℕ)
    (pattern : List ℕ) (parts : Parts)
    → pieces text ≡ before ++ Placeholder s e pattern parts ∷ after → is_absent parts.definition ≡ false
    → slice_get (items_of stored text) (length before) ≡ Some
    (PlaceholderItem (label_of parts) (Inline parts.definition))

-- A placeholder without an inline definition is resolved to the inline definition of an earlier placeholder of its
-- name in the same text, if no placeholder between them defines the name.
abbrev pub EarlierDefinitionHolds : Type 0
EarlierDefinitionHolds = (stored : Definitions) (text : List ℕ) (before between after : List Piece)
    (s e s' e' : ℕ) (pattern pattern' : List ℕ) (earlier parts : Parts)
    → pieces text ≡ before ++ Placeholder s e pattern earlier ∷ between
    ++ Placeholder s' e' pattern' parts ∷ after
    → is_absent earlier.definition ≡ false → earlier.name ≡ parts.name → NoneDefines parts.name between
    → is_absent parts.definition ≡ true
    → slice_get (items_of stored text) (suc (length before + length between))
    ≡ Some (PlaceholderItem (label_of parts) (Inline earlier.definition))

-- If a placeholder has no inline definition, and no placeholder before it in the same text defines its name, it is
-- resolved to the stored definition of its name, whatever other texts define. If there is none, its name is missing.
abbrev pub StoredDefinitionHolds : Type 0
StoredDefinitionHolds = (stored : Definitions) (text : List ℕ) (before after : List Piece) (s e : ℕ)
    (pattern : List ℕ) (parts : Parts)
    → pieces text ≡ before ++ Placeholder s e pattern parts ∷ after → NoneDefines parts.name before
    → is_absent parts.definition ≡ true
    → slice_get (items_of stored text) (length before) ≡ Some
    (resolved (label_of parts) None (stored parts.name))

-- ---- faults

-- The events of the tree before its first structural fault use no stored definition of this name, and that fault
-- isn't that the name is missing.
abbrev pub IsUnused : List ℕ → List Event → Type 0
IsUnused name tree = (reaches name (reached tree) ≡ false) × (first_structural tree ≡ Some (Missing name) → ⊥)

-- Libraries that differ only in definitions that a pattern doesn't use give it the same first structural fault. So a
-- fault in a definition that isn't reached is never reported. The pattern also reaches the same definitions.
abbrev pub UnusedDefinitionsDoNotMatter : Type 0
UnusedDefinitionsDoNotMatter = (stored other : Definitions) (pattern : List ℕ)
    → ((name : List ℕ) → (stored name ≡ other name) ⊎ IsUnused name (tree stored pattern))
    → (first_structural (tree other pattern) ≡ first_structural (tree stored pattern))
    × (reached (tree other pattern) ≡ reached (tree stored pattern))

-- If measuring a tree reports a fault, it reports the same fault with and without alias-only mode.
abbrev pub ModesFaultAlike : Type 0
ModesFaultAlike = (tree : List Event) (alias_only other : Bool) (fault : Fault)
    → measured_tree alias_only tree ≡ Faulty fault → measured_tree other tree ≡ Faulty fault

-- the start of a group, with or without a generated name
pub data IsHead : List ℕ → Type 0 where
  Unnamed : IsHead unnamed_head
  Numbered : (number : ℕ) → IsHead (named_head number)

-- the text is what the events write, if each placeholder writes one of the two starts of a group
abbrev pub IsTextOf : List Event → List ℕ → Type 0
IsTextOf [] text = text ≡ []
IsTextOf (Text bytes ∷ events) text = (rest : List ℕ) × (text ≡ bytes ++ rest) × IsTextOf events rest
IsTextOf (Close ∷ events) text = (rest : List ℕ) × (text ≡ codes ")" ++ rest) × IsTextOf events rest
IsTextOf (FaultEvent fault ∷ events) text = IsTextOf events text
IsTextOf (Open label meaning ∷ events) text = (head rest : List ℕ) × IsHead head × (text ≡ head ++ rest)
    × IsTextOf events rest

-- The expanded text is such a text with and without alias-only mode. So the texts of the two modes differ only in the
-- starts of their groups.
abbrev pub HeadsAloneDiffer : Type 0
HeadsAloneDiffer = (alias_only : Bool) (tree : List Event) → IsTextOf tree (expanded alias_only tree)
