-- Another way to say what the first fault and the extract of a key are: the list of events, or of capturing
-- placeholders, can be cut at the right position.
use Rattle.std.specs.Prelude.{◌≡◌, ℕ, Bool, true, false, List, [], ◌∷◌, ◌++◌, Some, None}
use Rattle.std.specs.Option.{option_map}
use Rattle.grok.specs.Tree.{is_absent, Label, Meaning, Fault, Event, Open, FaultEvent, first_structural}
use Rattle.grok.specs.Keys.{is_capturing, capturing, key_after, keys, TreeFault, Structural, Clash, is_among, first_fault, extract_of}

-- The event is a fault if it comes after the events `before`: it is a structural fault, or it opens a capturing
-- placeholder that would get the key of an earlier one.
pub data IsFaultAfter (alias_only : Bool) (before : List Event) : Event → TreeFault → Type 0 where
  StructuralEvent : (fault : Fault) → IsFaultAfter alias_only before (FaultEvent fault) (Structural fault)
  ClashingOpen : (label : Label) (meaning : Meaning) → is_capturing alias_only label ≡ true
      → is_among (key_after (capturing alias_only before) label) (keys (capturing alias_only before)) ≡ true
      → IsFaultAfter alias_only before (Open label meaning)
      (Clash (key_after (capturing alias_only before) label))

-- None of these events is a fault. Whether an event is one depends on the events before it (`IsFaultAfter`), since it
-- can get the key of an earlier placeholder.
abbrev pub HasNoFault : Bool → List Event → Type 0
HasNoFault alias_only events =
    (before : List Event) (event : Event) (after : List Event) (tree_fault : TreeFault)
    → events ≡ before ++ event ∷ after → IsFaultAfter alias_only before event tree_fault → ⊥

-- one of the events is this fault, and none of the events before it is a fault
pub record HasFirstFault (alias_only : Bool) (events : List Event) (tree_fault : TreeFault) : Type 0 where
  pub before : List Event
  pub event : Event
  pub after : List Event
  pub cut : events ≡ before ++ event ∷ after
  pub none : HasNoFault alias_only before
  pub is : IsFaultAfter alias_only before event tree_fault

-- `first_fault` returns `Some` with a fault exactly if that is the first fault of the tree (`HasFirstFault`), and
-- `None` exactly if no event of the tree is a fault (`HasNoFault`).
pub record FindsFirstFault (alias_only : Bool) (tree : List Event) : Type 0 where
  pub some : (tree_fault : TreeFault) → first_fault alias_only tree ≡ Some tree_fault
      → HasFirstFault alias_only tree tree_fault
  pub only : (tree_fault : TreeFault) → HasFirstFault alias_only tree tree_fault
      → first_fault alias_only tree ≡ Some tree_fault
  pub none : first_fault alias_only tree ≡ None → HasNoFault alias_only tree
  pub clean : HasNoFault alias_only tree → first_fault alias_only tree ≡ None

-- THE LAW: in every tree, `first_fault` finds the first fault.
abbrev pub FirstFaultIsFirst : Type 0
FirstFaultIsFirst = (alias_only : Bool) (tree : List Event) → FindsFirstFault alias_only tree

-- THE LAW: if the first fault of a tree isn't a clash, it is the first structural fault.
abbrev pub OtherFaultIsStructural : Type 0
OtherFaultIsStructural = (alias_only : Bool) (tree : List Event)
    → ((key : List ℕ) → first_fault alias_only tree ≡ Some (Clash key) → ⊥)
    → first_fault alias_only tree ≡ option_map Structural (first_structural tree)

-- ---- extracts

-- none of the capturing placeholders `labels`, which come after those of `earlier`, has this key and an extract
abbrev pub HasNoExtract : List Label → List Label → List ℕ → Type 0
HasNoExtract earlier labels key =
    (before : List Label) (label : Label) (after : List Label)
    → labels ≡ before ++ label ∷ after → key_after (earlier ++ before) label ≡ key
    → is_absent label.extract ≡ true

-- A capturing placeholder has this key and this extract, which isn't empty. No later one with this key has an
-- extract.
pub record HasLastExtract (labels : List Label) (key : List ℕ) (extract : List ℕ) : Type 0 where
  pub before : List Label
  pub label : Label
  pub after : List Label
  pub cut : labels ≡ before ++ label ∷ after
  pub has_key : key_after before label ≡ key
  pub has_extract : label.extract ≡ extract
  pub some : is_absent extract ≡ false
  pub last : HasNoExtract (before ++ label ∷ []) after key

-- `extract_of` returns `Some` with an extract exactly if that is the last extract of the key (`HasLastExtract`), and
-- `None` exactly if no capturing placeholder has the key and an extract (`HasNoExtract`).
pub record FindsLastExtract (alias_only : Bool) (tree : List Event) (key : List ℕ) : Type 0 where
  pub some : (extract : List ℕ) → extract_of alias_only tree key ≡ Some extract
      → HasLastExtract (capturing alias_only tree) key extract
  pub only : (extract : List ℕ) → HasLastExtract (capturing alias_only tree) key extract
      → extract_of alias_only tree key ≡ Some extract
  pub none : extract_of alias_only tree key ≡ None → HasNoExtract [] (capturing alias_only tree) key
  pub nothing : HasNoExtract [] (capturing alias_only tree) key → extract_of alias_only tree key ≡ None

-- THE LAW: for every tree and key, `extract_of` finds the last extract.
abbrev pub ExtractIsLast : Type 0
ExtractIsLast = (alias_only : Bool) (tree : List Event) (key : List ℕ) → FindsLastExtract alias_only tree key
