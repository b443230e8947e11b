-- THE PLAN of the answers to a pattern: in which member of the object the values of each key are written.
use Rattle.std.specs.Prelude.{◌≡◌, ℕ, zero, suc, ◌+◌, ◌≤◌, List, [], ◌∷◌, ◌++◌, Bool, true, false, ◌&&◌, ◌||◌, ◌==◌, nat_lt, not, Option, Some, None, if◌then◌else◌, option_map, unwrap_or, length}
use Rattle.std.specs.List.{AllByRecursion, list_any, before_first, after_first}
use Rattle.std.specs.List.Sorted.{IsPermutation}
use Rattle.std.specs.Ordering.{nat_cmp, is_lt}
use Rattle.std.specs.Str.{bytes_eq}
use Rattle.std.specs.Cmp.Lexicographic.{slice_cmp}

-- ---- the names of a key

-- A name between brackets isn't empty and has no brackets in it. The text has no `]`.
abbrev pub is_name : List ℕ → Bool
is_name text = nat_lt 0 (length text) && not (list_any (λ b. b == 91) text)

-- The name and what follows it, if it is a name.
abbrev pub name_and_rest : List ℕ → List ℕ → Option (List ℕ × List ℕ)
name_and_rest name rest = if is_name name then Some (name, rest) else None

-- What comes before the first `]`, if that is a name, and what follows the `]`.
abbrev pub closed_name : List ℕ → Option (List ℕ × List ℕ)
closed_name text =
    if list_any (λ b. b == 93) text then
    name_and_rest (before_first (λ b. b == 93) text) (after_first (λ b. b == 93) text)
    else None

-- The name in brackets that the text begins with, and what follows it: `a` and `[b]` for `[a][b]`.
-- It is `None` if the text begins otherwise.
abbrev pub first_name : List ℕ → Option (List ℕ × List ℕ)
first_name [] = None
first_name (b ∷ text) = if b == 91 then closed_name text else None

-- The first name and those in the rest, which `more` gives unless the rest is empty.
abbrev pub with_more : (List ℕ → Option (List (List ℕ))) → Option (List ℕ × List ℕ) → Option (List (List ℕ))
with_more more None = None
with_more more (Some (name, [])) = Some (name ∷ [])
with_more more (Some (name, b ∷ rest)) = option_map (λ names. name ∷ names) (more (b ∷ rest))

-- The names `a`, `b` and so on of a text that is `[a][b]..`, with at least one and at most this many
-- names. It is `None` if the text has another form.
unfoldable pub names_within : ℕ → List ℕ → Option (List (List ℕ))
names_within zero text = None
names_within (suc n) text = with_more (names_within n) (first_name text)

-- The most names that a key may have. Readers of JSON take objects that are nested this deep.
abbrev pub most_names : ℕ
most_names = 100

-- THE NAMES of a key. If objects are nested, `[a][b]` has the names `a` and `b`. A key of another form,
-- or with more than `most_names` names, is a name itself.
abbrev pub key_names : Bool → List ℕ → List (List ℕ)
key_names is_nested key = if is_nested then unwrap_or (names_within most_names key) (key ∷ []) else key ∷ []

-- The names in both lists lead to different members, neither of which is inside the other one. The first list comes before
-- the second: at the first index where their names differ, its name comes first in byte order.
abbrev pub comes_before : List (List ℕ) → List (List ℕ) → Bool
comes_before [] others = false
comes_before (name ∷ names) [] = false
comes_before (name ∷ names) (other ∷ others) =
    if bytes_eq name other then comes_before names others else is_lt (slice_cmp nat_cmp name other)

-- ---- entries

-- A key of a pattern with the key that it is written under. They differ if placeholders share a key.
pub record SharedKeyText : Type 0 where
  pub key : List ℕ
  pub base : List ℕ

-- A key of a pattern with the names that lead to its values. Its index says how many keys are read
-- before it.
pub record EntryText : Type 0 where
  pub names : List (List ℕ)
  pub key : List ℕ
  pub base : List ℕ
  pub index : ℕ

-- The keys with their names. The first one has this index.
abbrev pub entries_from : Bool → ℕ → List SharedKeyText → List EntryText
entries_from is_nested index [] = []
entries_from is_nested index (shared ∷ more) =
    record { names = key_names is_nested shared.base; key = shared.key; base = shared.base; index = index }
    ∷ entries_from is_nested (index + 1) more

-- The entry may come right before the next one: its member does in byte order, or both are written
-- under one key, and it is read first.
abbrev pub is_before : EntryText → EntryText → Bool
is_before entry next =
    comes_before entry.names next.names || (bytes_eq entry.base next.base && nat_lt entry.index next.index)

-- The entry may come right before the first of these entries, if there is one.
abbrev pub MayPrecede : EntryText → List EntryText → Type 0
MayPrecede entry [] = Unit {0}
MayPrecede entry (next ∷ more) = is_before entry next ≡ true

-- Each entry may come right before the next one.
abbrev pub AreInOrder : List EntryText → Type 0
AreInOrder [] = Unit {0}
AreInOrder (entry ∷ more) = MayPrecede entry more × AreInOrder more

-- ---- fields

-- A member of the object, and the keys that it has its values from, in reading order. The object has the
-- member `parents[0]`, which is an object that has the member `parents[1]`, and so on, and the last of
-- these objects has the member `name`. If there are no parents, the object itself has it.
pub record FieldText : Type 0 where
  pub parents : List (List ℕ)
  pub name : List ℕ
  pub keys : List (List ℕ)

-- The member that the names `first`, and then `more`, lead to.
abbrev pub field_at : List ℕ → List (List ℕ) → List (List ℕ) → FieldText
field_at first [] keys = record { parents = []; name = first; keys = keys }
field_at first (second ∷ more) keys =
    let field = field_at second more keys in record { parents = first ∷ field.parents; name = field.name; keys = keys }

-- The member that these names lead to. There is at least one name; if there were none, it would be `base`.
abbrev pub field_of : List ℕ → List (List ℕ) → List (List ℕ) → FieldText
field_of base [] keys = field_at base [] keys
field_of base (first ∷ more) keys = field_at first more keys

-- The first of these names, or `name` if there are none.
abbrev pub first_or : List ℕ → List (List ℕ) → List ℕ
first_or name [] = name
first_or name (first ∷ more) = first

-- The first of these entries has this base.
abbrev pub continues : List ℕ → List EntryText → Bool
continues base [] = false
continues base (next ∷ more) = bytes_eq base next.base

-- The members for these entries, with one for those that follow one another with one base. `keys` are
-- the keys of entries before them that have the base of the first one.
abbrev pub gathered : List (List ℕ) → List EntryText → List FieldText
gathered keys [] = []
gathered keys (entry ∷ more) =
    if continues entry.base more then gathered (keys ++ entry.key ∷ []) more
    else field_of entry.base entry.names (keys ++ entry.key ∷ []) ∷ gathered [] more

-- The first of the names that lead to a member.
abbrev pub first_of : FieldText → List ℕ
first_of field = first_or field.name field.parents

-- No member of a plan is deeper in objects than `most_names`.
abbrev pub IsShallow : List FieldText → Type 0
IsShallow = AllByRecursion (λ field. length field.parents ≤ most_names)

-- THE PLAN for these keys: the values of each of them are written in the member that its names lead to.
-- The members are in byte order, none is written twice, and none is both a value and an object.
abbrev pub IsPlan : Bool → List SharedKeyText → List FieldText → Type 0
IsPlan is_nested shared fields =
    (entries : List EntryText) × IsPermutation (entries_from is_nested 0 shared) entries
    × AreInOrder entries × (fields ≡ gathered [] entries)
