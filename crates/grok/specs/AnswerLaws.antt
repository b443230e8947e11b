-- The laws of key tables, and of the values of keys.
use Rattle.std.specs.Prelude.{◌≡◌, ◌≢◌, ◌↔◌, ℕ, ◌<◌, List, Option, Some, Contains, filter, is_some, length, slice_get, slice_index_or, [], MatchOption}
use Rattle.std.specs.List.Sorted.{IsStrictlySortedBy}
use Rattle.std.specs.Map.{keys_of}
use Rattle.std.specs.Cmp.Lexicographic.{slice_cmp}
use Rattle.std.specs.Ordering.{nat_cmp}
use Rattle.grok.specs.GeneratedNames.{generated}
use Rattle.grok.specs.KeyTable.{Entries, meant_key, group_of}
use Rattle.grok.specs.Answers.{value_of, walk}

-- the keys of a table are in byte order, each once
abbrev pub Rises : Entries → Type 0
Rises table = IsStrictlySortedBy (slice_cmp nat_cmp) (keys_of table)

-- A walk has exactly those keys of the table that have a value, in the order of the table.
abbrev pub WalksHaveTheAnsweredKeys : Type 0
WalksHaveTheAnsweredKeys = (table : Entries) (captures : List (Option (List ℕ))) → Rises table
    → keys_of (walk table captures) ≡ filter (λ key. is_some (value_of table captures key)) (keys_of table)

-- A key has a value exactly if the walk has a pair with that key, and the value is the text in that pair.
abbrev pub AnswersAreThoseOfTheWalk : Type 0
AnswersAreThoseOfTheWalk = (table : Entries) (captures : List (Option (List ℕ))) → Rises table
    → (key text : List ℕ)
    → (value_of table captures key ≡ Some text) ↔ Contains (walk table captures) (key, text)

-- The generated name of number k means the key of number k: if the first key is `user`, `_n_0` means `user`.
abbrev pub GeneratedNamesMeanTheirKeys : Type 0
GeneratedNamesMeanTheirKeys = (keys : List (List ℕ)) (number : ℕ) → number < length keys
    → meant_key keys (generated number) ≡ slice_index_or keys number []

-- Any other name of a group means itself.
abbrev pub OtherNamesMeanThemselves : Type 0
OtherNamesMeanThemselves = (keys : List (List ℕ)) (name : List ℕ)
    → ((number : ℕ) → number < length keys → name ≢ generated number) → meant_key keys name ≡ name

-- The group `group` has a name, and that name means the key `key`.
abbrev pub NameMeans : List (List ℕ) → List (Option (List ℕ)) → List ℕ → ℕ → Type 0
NameMeans keys names key group = (name : List ℕ) × (slice_get names group ≡ Some (Some name))
    × (meant_key keys name ≡ key)

-- The group of a key is the greatest group whose name means the key. If a key has no group, no name means the key.
abbrev pub GroupsAreTheGreatest : Type 0
GroupsAreTheGreatest = (keys : List (List ℕ)) (names : List (Option (List ℕ))) (key : List ℕ)
    → MatchOption (group_of keys names key)
    ((group : ℕ) → ¬ NameMeans keys names key group)
    (λ group. NameMeans keys names key group × ((later : ℕ) → group < later
    → ¬ NameMeans keys names key later))
