-- What measuring a pattern returns, defined by its tree, and how many pieces and texts it can reach.
use Rattle.std.specs.Prelude.{◌≡◌, ℕ, ◌+◌, ◌-◌, ◌^◌, min, Bool, true, false, List, [], ◌∷◌, length, if◌then◌else◌, is_some, nat_lt, suc, Option, Some, None}
use Rattle.std.specs.Str.{bytes_eq}
use Rattle.std.specs.FinMap as finite
use Rattle.grok_parser.specs.Pieces.{pieces}
use Rattle.grok.specs.Maps.{Texts}
use Rattle.grok.specs.Tree.{Fault, Inline, Stored, Item, items_of, Event, Text, Open, Close, FaultEvent, events, inside, deepest, tree, first_structural, reached}
use Rattle.grok.specs.Expanded.{expanded, groups, nesting}
use Rattle.grok.specs.Items.{fault_view}
use Rattle.grok.specs.declared.measure.Measure.{Measure}
use Rattle.grok.specs.declared.measure.Measure.TheVariants as measure

-- the tree of a pattern with these definitions
abbrev pub tree_of : Texts → List ℕ → List Event
tree_of texts pattern = tree (finite.get texts) pattern

-- the tree has no structural fault
abbrev pub IsClean : List Event → Type 0
IsClean tree = first_structural tree ≡ None

-- ---- the result

-- The result of measuring: the first structural fault (a malformed placeholder, a missing definition, or nesting
-- that is too deep), the size of the expanded text, or that the text is longer than the greatest `usize`. The
-- length is in bytes, and the nesting in levels.
pub data Measured : Type 0 where
  Faulty : (fault : Fault) → Measured
  Sized : (length groups nesting : ℕ) → Measured
  TooLong : Measured

-- the size of a clean tree, or that its text is too long
abbrev pub size_within : ℕ → ℕ → ℕ → Measured
size_within length groups nesting = if nat_lt length (2 ^ 64) then Sized length groups nesting else TooLong

-- the fault if there is one, and otherwise this size
abbrev pub fault_or : Option Fault → Measured → Measured
fault_or (Some fault) size = Faulty fault
fault_or None size = size

-- THE RESULT OF MEASURING: the first structural fault, or else the size of the expanded text
abbrev pub measured_tree : Bool → List Event → Measured
measured_tree alias_only tree = fault_or (first_structural tree)
    (size_within (length (expanded alias_only tree)) (groups alias_only tree) (nesting tree))

-- what contracts see of the public result
abbrev pub measure_view : Measure → Measured
measure_view (measure.Fault fault) = Faulty (fault_view fault)
measure_view (measure.Size length groups nesting) = Sized length groups nesting
measure_view measure.TooLong = TooLong

-- ---- what is read

-- whether one of these events opens a placeholder that stands for the stored definition of this name
abbrev pub reaches : List ℕ → List Event → Bool
reaches name [] = false
reaches name (Text text ∷ events) = reaches name events
reaches name (Close ∷ events) = reaches name events
reaches name (FaultEvent fault ∷ events) = reaches name events
reaches name (Open label (Inline text) ∷ events) = reaches name events
reaches name (Open label (Stored text) ∷ events) = if bytes_eq label.name name then true
    else reaches name events

-- the weights of those texts whose names `is_chosen` chooses, added up
abbrev pub weighed : (List ℕ → ℕ) → (List ℕ → Bool) → List (List ℕ × List ℕ) → ℕ
weighed weight is_chosen [] = 0
weighed weight is_chosen (entry ∷ entries) = (if is_chosen entry.0 then weight entry.1
    else 0) + weighed weight is_chosen entries

-- The weights of the pattern and of the stored definitions that it reaches (those used before its first structural
-- fault), added up. Each definition counts once.
abbrev pub reached_weight : (List ℕ → ℕ) → Texts → List ℕ → ℕ
reached_weight weight texts pattern = weight pattern + weighed weight
    (λ name. reaches name (reached (tree_of texts pattern))) (finite.entries texts)

-- how many pieces the pattern and the definitions that it reaches have together
abbrev pub reached_pieces : Texts → List ℕ → ℕ
reached_pieces texts pattern = reached_weight (λ text. length (pieces text)) texts pattern

-- how many stored definitions the pattern reaches, and one more for the pattern itself
abbrev pub reached_texts : Texts → List ℕ → ℕ
reached_texts texts pattern = reached_weight (λ text. 1) texts pattern

-- how many of these items there are up to the first one that has a structural fault in it, with this one, or all of them if
-- none has; `inside` says what follows the open of a placeholder
abbrev pub items_to_fault : (List ℕ → List Event) → List Item → ℕ
items_to_fault inside [] = 0
items_to_fault inside (item ∷ items) = if is_some (first_structural (events inside (item ∷ []))) then 1
    else suc (items_to_fault inside items)

-- how many pieces the pattern itself has up to the one that its first structural fault is in, with this one, or all of them
-- if there is no fault
abbrev pub pieces_to_fault : Texts → List ℕ → ℕ
pieces_to_fault texts pattern = items_to_fault (inside (items_of (finite.get texts)) deepest)
    (items_of (finite.get texts) pattern)

-- what a counter of the code shows after `n` steps: it stays at the greatest `u64`
abbrev pub saturated : ℕ → ℕ
saturated n = min n (2 ^ 64 - 1)
