-- The key table: which key the name of a group means, and which group each key has.
use Rattle.std.specs.Prelude.{◌≡◌, ℕ, suc, List, [], ◌∷◌, if◌then◌else◌, Option, Some, None}
use Rattle.std.specs.List.Sorted.{IsStrictlySortedBy}
use Rattle.std.specs.Map.{lookup, keys_of}
use Rattle.std.specs.Str.{bytes_eq}
use Rattle.std.specs.Cmp.Lexicographic.{slice_cmp}
use Rattle.std.specs.Ordering.{nat_cmp}
use Rattle.std.specs.Borrow.{Bor}
use Rattle.grok.specs.GeneratedNames.{generated}

-- ---- names

-- The key that a group's name means: the key of number k if the name is `_n_k`, and otherwise the name itself.
-- `keys` has the keys from number `number` on.
abbrev pub meant_from : ℕ → List (List ℕ) → List ℕ → List ℕ
meant_from number [] name = name
meant_from number (key ∷ keys) name = if bytes_eq name (generated number) then key
    else meant_from (suc number) keys name

-- The key that a group's name means: the key of number k if the name is `_n_k`, and otherwise the name itself. The
-- first of `keys` has number 0.
abbrev pub meant_key : List (List ℕ) → List ℕ → List ℕ
meant_key keys name = meant_from 0 keys name

-- ---- groups

-- The groups whose name means the key, in rising order. `names` has the names of the groups from `group` on.
abbrev pub groups_from : List (List ℕ) → List ℕ → ℕ → List (Option (List ℕ)) → List ℕ
groups_from keys key group [] = []
groups_from keys key group (None ∷ names) = groups_from keys key (suc group) names
groups_from keys key group (Some name ∷ names) = if bytes_eq (meant_key keys name) key
    then group ∷ groups_from keys key (suc group) names else groups_from keys key (suc group) names

-- the last element of a list, or `found` if the list is empty
abbrev pub last_or : Option ℕ → List ℕ → Option ℕ
last_or found [] = found
last_or found (group ∷ groups) = last_or (Some group) groups

-- the group of a key: the last one whose name means the key
abbrev pub group_of : List (List ℕ) → List (Option (List ℕ)) → List ℕ → Option ℕ
group_of keys names key = last_or None (groups_from keys key 0 names)

-- ---- tables

-- a list of keys with their groups
abbrev pub Entries : Type 0
Entries = List (List ℕ × ℕ)

-- the entry of a group and its key
abbrev pub entry_of_group : ℕ × Bor (List ℕ) → List ℕ × ℕ
entry_of_group pair = (pair.1.now, pair.0)

-- the group of a key in a table
abbrev pub group_in : Entries → List ℕ → Option ℕ
group_in table key = lookup (bytes_eq key) table

-- THE KEY TABLE for these keys, numbered from 0, and these names of groups. Each key that some name means is in
-- it once, in byte order, with its group.
pub record IsKeyTable (keys : List (List ℕ)) (names : List (Option (List ℕ))) (table : Entries) : Type 0 where
  pub sorted : IsStrictlySortedBy (slice_cmp nat_cmp) (keys_of table)
  pub groups : (key : List ℕ) → group_in table key ≡ group_of keys names key
