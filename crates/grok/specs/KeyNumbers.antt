-- The keys of placeholders, with their numbers.
use Rattle.std.specs.Prelude.{ℕ, List, [], ◌∷◌, string_bytes}
use Rattle.grok.specs.Tree.{Label}
use Rattle.grok.specs.Keys.{base_key, how_often}
use Rattle.grok.specs.declared.expand.placeholder_key.PlaceholderKey.{PlaceholderKey}

-- the bytes of the key of a placeholder
abbrev pub key_text : PlaceholderKey → List ℕ
key_text key = string_bytes key.key

-- the number of the key of a placeholder
abbrev pub key_number : PlaceholderKey → ℕ
key_number key = key.number

-- the key of a placeholder, with its number
abbrev pub key_and_number : PlaceholderKey → List ℕ × ℕ
key_and_number key = (key_text key, key_number key)

-- The numbers of these capturing placeholders, if those in `before` were read before them. In `before` the latest
-- placeholder stands first.
abbrev pub numbers_after : List Label → List Label → List ℕ
numbers_after before [] = []
numbers_after before (label ∷ labels) = how_often before (base_key label) ∷ numbers_after (label ∷ before) labels

-- THE NUMBERS of capturing placeholders: how many before each of them have the same base key
abbrev pub numbers : List Label → List ℕ
numbers labels = numbers_after [] labels
