-- The size of an expanded text, added up item by item.
use Rattle.std.specs.Prelude.{ℕ, zero, suc, ◌+◌, max, Bool, List, [], ◌∷◌, ◌++◌, length, codes, if◌then◌else◌, Result, Ok, Err}
use Rattle.grok.specs.Tree.{Fault, TooDeep, Label, meaning_text, Item, TextItem, FaultItem, PlaceholderItem}
use Rattle.grok.specs.Keys.{is_capturing}
use Rattle.grok.specs.Numeral.{numeral}
use Rattle.grok.specs.GeneratedNames.{name_start, unnamed_head, bracket_bytes}

-- The size of an expanded text or of a part of it: its bytes without the numbers in the names of groups, the number
-- of groups with a name, and the greatest nesting in levels, which is 0 without placeholders.
pub record Size : Type 0 where
  pub bytes : ℕ
  pub groups : ℕ
  pub height : ℕ

abbrev pub no_size : Size
no_size = record { bytes = 0; groups = 0; height = 0 }

-- the size of regular text
abbrev pub size_of_bytes : List ℕ → Size
size_of_bytes text = record { bytes = length text; groups = 0; height = 0 }

-- the size of two texts one after the other
abbrev pub plus : Size → Size → Size
plus a b = record { bytes = a.bytes + b.bytes; groups = a.groups + b.groups; height = max a.height b.height }

-- the result for two texts one after the other: the first fault, or else the sizes together
abbrev pub both : Result Size Fault → Result Size Fault → Result Size Fault
both (Err fault) s = Err fault
both (Ok a) (Err fault) = Err fault
both (Ok a) (Ok b) = Ok (plus a b)

-- the size of a placeholder, given that of its definition; the number in the name of its group isn't counted
abbrev pub in_brackets : Bool → Size → Size
in_brackets capturing inner = record {
  bytes = bracket_bytes capturing + inner.bytes;
  groups = (if capturing then 1 else 0) + inner.groups;
  height = suc inner.height;
}

-- the size of a placeholder, given the size of its definition, or the fault if the definition has one
abbrev pub sum_in_brackets : Bool → Result Size Fault → Result Size Fault
sum_in_brackets capturing (Err fault) = Err fault
sum_in_brackets capturing (Ok inner) = Ok (in_brackets capturing inner)

-- the size of the placeholder with this label, given the size of its definition
abbrev pub bracketed : Bool → Label → Size → Size
bracketed alias_only label = in_brackets (is_capturing alias_only label)

-- the size of the placeholder with this label, given the size of its definition, or the fault if the definition has one
abbrev pub wrapped : Bool → Label → Result Size Fault → Result Size Fault
wrapped alias_only label = sum_in_brackets (is_capturing alias_only label)

-- The size or fault of an item (a piece with its placeholder resolved to its definition). `inner` returns the size or
-- fault of a definition.
abbrev pub size_of : Bool → (List ℕ → Result Size Fault) → Item → Result Size Fault
size_of alias_only inner (TextItem text) = Ok (size_of_bytes text)
size_of alias_only inner (FaultItem fault) = Err fault
size_of alias_only inner (PlaceholderItem label meaning) = wrapped alias_only label
    (inner (meaning_text meaning))

-- the size of these items together, or their first fault
abbrev pub sizes : Bool → (List ℕ → Result Size Fault) → List Item → Result Size Fault
sizes alias_only inner [] = Ok no_size
sizes alias_only inner (item ∷ items) = both (size_of alias_only inner item) (sizes alias_only inner items)

-- The size or fault of a definition with `levels` levels left, its own among them. `resolve` gives the items of
-- each text.
abbrev pub size_or_fault : Bool → (List ℕ → List Item) → ℕ → List ℕ → Result Size Fault
size_or_fault alias_only resolve zero text = Err TooDeep
size_or_fault alias_only resolve (suc levels) text = sizes alias_only
    (size_or_fault alias_only resolve levels) (resolve text)

-- the size of what a placeholder writes before its definition; the number in the name of its group isn't counted
abbrev pub head_size : Bool → Size
head_size capturing = record {
  bytes = if capturing then length (codes "(?<" ++ name_start ++ codes ">") else length unnamed_head;
  groups = if capturing then 1 else 0;
  height = 0;
}

-- how many decimal digits the `count` numbers `first`, `first + 1`, .. have together
abbrev pub digits_from : ℕ → ℕ → ℕ
digits_from first zero = 0
digits_from first (suc count) = length (numeral first) + digits_from (suc first) count

-- the length in bytes of a text of this size, with the numbers in the names of its groups
abbrev pub length_of : Size → ℕ
length_of size = size.bytes + digits_from 0 size.groups
