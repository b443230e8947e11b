-- Where in a line the values of keys are.
use Rattle.std.specs.Prelude.{ℕ, List, [], map, Option, option_map, option_and_then, unwrap_or, slice_get, slice_range, Vec}
use Rattle.std.specs.Global.{Global}
use Rattle.std.specs.List.{filter_map}
use Rattle.marked_lines.specs.declared.runs.Field.{Field}

-- The number of the key of a field, and the text of the line that the field has.
abbrev pub field_text : List ℕ → Field → ℕ × List ℕ
field_text line field = (field.key, slice_range line field.start field.end)

-- The same of some fields.
abbrev pub fields_text : List ℕ → Vec Field Global → List (ℕ × List ℕ)
fields_text line fields = map (field_text line) fields.items

-- The number with the value of the key that has it among these keys, if that key has a value.
abbrev pub numbered_value : (List ℕ → Option (List ℕ)) → List (List ℕ) → ℕ → Option (ℕ × List ℕ)
numbered_value value keys number = option_map (λ text. (number, text)) (option_and_then value (slice_get keys number))

-- These numbers with the values of their keys, without those whose key has none.
abbrev pub values_at : (List ℕ → Option (List ℕ)) → List (List ℕ) → List ℕ → List (ℕ × List ℕ)
values_at value keys numbers = filter_map (numbered_value value keys) numbers

-- The numbers of the keys of the pattern with this index.
abbrev pub numbers_at : List (Vec ℕ Global) → ℕ → List ℕ
numbers_at numbers_of index = unwrap_or (option_map (λ numbers. numbers.items) (slice_get numbers_of index)) []
