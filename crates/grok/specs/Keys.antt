-- The capturing placeholders of a tree: their keys, when two of them clash, and their extracts.
use Rattle.std.specs.Prelude.{◌≡◌, ◌↔◌, ℕ, zero, suc, ◌==◌, Bool, true, false, not, ◌&&◌, ◌||◌, List, [], ◌∷◌, ◌++◌, if◌then◌else◌, Option, Some, None, count_by, codes}
use Rattle.std.specs.Option.{option_map}
use Rattle.std.specs.Str.{bytes_eq}
use Rattle.std.specs.Char.{is_ascii_digit}
use Rattle.grok_parser.specs.Ascii.{close_bracket, digit_zero, open_bracket}
use Rattle.grok.specs.Numeral.{numeral}
use Rattle.grok.specs.Tree.{Definitions, is_absent, Label, Event, Text, Open, Close, FaultEvent, Fault, reached, first_structural, tree}

-- ---- capturing placeholders

-- whether a placeholder captures: each one does, except those without an alias in alias-only mode
abbrev pub is_capturing : Bool → Label → Bool
is_capturing alias_only label = not (alias_only && is_absent label.alias)

-- the capturing placeholders in reading order; the first has number 0
abbrev pub capturing : Bool → List Event → List Label
capturing alias_only [] = []
capturing alias_only (Text text ∷ events) = capturing alias_only events
capturing alias_only (Close ∷ events) = capturing alias_only events
capturing alias_only (FaultEvent fault ∷ events) = capturing alias_only events
capturing alias_only (Open label meaning ∷ events) =
    if is_capturing alias_only label then label ∷ capturing alias_only events else capturing alias_only events

-- ---- keys

-- the base key: the alias, or the name if there is no alias
abbrev pub base_key : Label → List ℕ
base_key label = if is_absent label.alias then label.name else label.alias

-- how many of these placeholders have this base key
abbrev pub how_often : List Label → List ℕ → ℕ
how_often before key = count_by (λ earlier. bytes_eq (base_key earlier) key) before

-- "key", then "key[1]", "key[2]": the n-th placeholder that asks for `key`, counted from 0, gets the n-th
abbrev pub numbered : List ℕ → ℕ → List ℕ
numbered key zero = key
numbered key (suc count) = key ++ codes "[" ++ numeral (suc count) ++ codes "]"

-- the key of a capturing placeholder that comes after the capturing placeholders `before`
abbrev pub key_after : List Label → Label → List ℕ
key_after before label = numbered (base_key label) (how_often before (base_key label))

-- The keys of capturing placeholders that come after those of `before`. In `before` the latest is the first.
abbrev pub keys_after : List Label → List Label → List (List ℕ)
keys_after before [] = []
keys_after before (label ∷ labels) = key_after before label ∷ keys_after (label ∷ before) labels

-- THE KEYS of capturing placeholders: `A` and `A[1]` for `%{A}%{A}`
abbrev pub keys : List Label → List (List ℕ)
keys labels = keys_after [] labels

-- ---- the first fault

-- what compiling finds first: a structural fault, or a capturing placeholder whose key is already taken
pub data TreeFault : Type 0 where
  Structural : (fault : Fault) → TreeFault
  Clash : (key : List ℕ) → TreeFault

-- whether the key is one of these
abbrev pub is_among : List ℕ → List (List ℕ) → Bool
is_among key [] = false
is_among key (other ∷ others) = if bytes_eq other key then true else is_among key others

-- The first fault of these events, if the capturing placeholders `before` were read before them and have the keys
-- `taken`. In `before` the latest placeholder stands first.
abbrev pub first_fault_after : Bool → List Label → List (List ℕ) → List Event → Option TreeFault
first_fault_after alias_only before taken [] = None
first_fault_after alias_only before taken (Text text ∷ events) = first_fault_after alias_only before taken events
first_fault_after alias_only before taken (Close ∷ events) = first_fault_after alias_only before taken events
first_fault_after alias_only before taken (FaultEvent fault ∷ events) = Some (Structural fault)
first_fault_after alias_only before taken (Open label meaning ∷ events) =
    if is_capturing alias_only label
    then (if is_among (key_after before label) taken
    then Some (Clash (key_after before label))
    else first_fault_after alias_only (label ∷ before) (key_after before label ∷ taken) events)
    else first_fault_after alias_only before taken events

-- THE FIRST FAULT in reading order. If one placeholder has several, a missing definition comes first, then a
-- clash, and then a nesting that is too deep.
abbrev pub first_fault : Bool → List Event → Option TreeFault
first_fault alias_only tree = first_fault_after alias_only [] [] tree

-- ---- extracts

-- The extract of the last of these placeholders that has the key and an extract, or `found` if there is none.
-- `before` has the capturing placeholders before them, the latest first.
abbrev pub extract_after : List Label → List ℕ → List Label → Option (List ℕ) → Option (List ℕ)
extract_after before key [] found = found
extract_after before key (label ∷ labels) found =
    extract_after (label ∷ before) key labels
    (if bytes_eq (key_after before label) key && not (is_absent label.extract) then Some label.extract
    else found)

-- THE EXTRACT OF A KEY: that of the last capturing placeholder of the tree that has the key and an extract
abbrev pub extract_of : Bool → List Event → List ℕ → Option (List ℕ)
extract_of alias_only tree key = extract_after [] key (capturing alias_only tree) None

-- ---- which placeholders can clash

-- whether a text is any number of digits, perhaps none, and then a `]` at its end
abbrev pub ends_digits : List ℕ → Bool
ends_digits [] = false
ends_digits (c ∷ cs) = if c == close_bracket then is_absent cs else is_ascii_digit c && ends_digits cs

-- whether a text is a decimal number from 1 up and then a `]` at its end
abbrev pub ends_number : List ℕ → Bool
ends_number [] = false
ends_number (c ∷ cs) = not (c == digit_zero) && (is_ascii_digit c && ends_digits cs)

-- Whether a key ends as numbered keys do: in `[`, a decimal number from 1 up without leading zeros, and `]`.
-- `x[10]` does, and `x[01]` doesn't.
abbrev pub ends_in_number : List ℕ → Bool
ends_in_number [] = false
ends_in_number (c ∷ cs) = (c == open_bracket && ends_number cs) || ends_in_number cs

-- whether one of these events opens a placeholder whose alias ends in a number in brackets, as `x[1]` does
abbrev pub has_numbered_alias : List Event → Bool
has_numbered_alias [] = false
has_numbered_alias (Text text ∷ events) = has_numbered_alias events
has_numbered_alias (Close ∷ events) = has_numbered_alias events
has_numbered_alias (FaultEvent fault ∷ events) = has_numbered_alias events
has_numbered_alias (Open label meaning ∷ events) = if ends_in_number label.alias then true
    else has_numbered_alias events

-- no key occurs twice
abbrev pub AreDistinct : List (List ℕ) → Type 0
AreDistinct [] = Unit {0}
AreDistinct (key ∷ keys) = (is_among key keys ≡ false) × AreDistinct keys

-- THE LAWS of keys. A key ends in a number in brackets exactly if it is `numbered` with a count from 1 up.
abbrev pub EndsInNumberWhereNumbered : Type 0
EndsInNumberWhereNumbered = (key : List ℕ) → (ends_in_number key ≡ true)
    ↔ ((front : List ℕ) × (count : ℕ) × (key ≡ numbered front (suc count)))

-- If no alias that ends in a number in brackets is reached, the first fault is a structural one.
abbrev pub ClashNeedsNumber : Type 0
ClashNeedsNumber = (alias_only : Bool) (stored : Definitions) (pattern : List ℕ)
    → has_numbered_alias (reached (tree stored pattern)) ≡ false
    → first_fault alias_only (tree stored pattern) ≡ option_map Structural
    (first_structural (tree stored pattern))

-- If the first fault isn't a clash, no two capturing placeholders that are reached have the same key.
abbrev pub KeysAreDistinct : Type 0
KeysAreDistinct = (alias_only : Bool) (tree : List Event)
    → ((key : List ℕ) → first_fault alias_only tree ≡ Some (Clash key) → ⊥)
    → AreDistinct (keys (capturing alias_only (reached tree)))
