-- The capturing placeholders so far, the latest first, with their keys and extracts.
use Rattle.std.specs.Prelude.{ℕ, not, ◌&&◌, List, [], ◌∷◌, ◌++◌, if◌then◌else◌, Bool, Option, Some, None}
use Rattle.std.specs.Str.{bytes_eq}
use Rattle.grok.specs.Tree.{is_absent, Label, Event}
use Rattle.grok.specs.Keys.{base_key, how_often, key_after, capturing, TreeFault, first_fault_after}

-- Puts later capturing placeholders, given in reading order, in front of the earlier ones: `onto [b, a] [c, d]`
-- is `[d, c, b, a]`.
abbrev pub onto : List Label → List Label → List Label
onto before [] = before
onto before (label ∷ labels) = onto (label ∷ before) labels

-- The keys of these placeholders, the latest first. The placeholders are given in that order too.
abbrev pub taken_of : List Label → List (List ℕ)
taken_of [] = []
taken_of (label ∷ before) = key_after before label ∷ taken_of before

-- The keys of these placeholders in reading order. The placeholders are given with the latest first.
abbrev pub in_order : List Label → List (List ℕ)
in_order [] = []
in_order (label ∷ before) = in_order before ++ key_after before label ∷ []

-- The numbers of the keys of these placeholders in reading order: how many placeholders before each have the same
-- base key. The placeholders are given with the latest first.
abbrev pub numbers_in_order : List Label → List ℕ
numbers_in_order [] = []
numbers_in_order (label ∷ before) = numbers_in_order before ++ how_often before (base_key label) ∷ []

-- the extract of a key: that of the latest of these placeholders that has the key and an extract
abbrev pub extract_before : List Label → List ℕ → Option (List ℕ)
extract_before [] key = None
extract_before (label ∷ before) key = if bytes_eq (key_after before label) key
    && not (is_absent label.extract) then Some label.extract else extract_before before key

-- the first fault of `events`, which come after the capturing placeholders `before`
abbrev pub faults : Bool → List Label → List Event → Option TreeFault
faults alias_only before events = first_fault_after alias_only before (taken_of before) events

-- the capturing placeholders of `events`, the latest first, and after them the earlier ones, those of `before`
abbrev pub after : Bool → List Label → List Event → List Label
after alias_only before events = onto before (capturing alias_only events)
