-- Runs of the characters of a line that have one key.
use Rattle.std.specs.Prelude.{ℕ, ◌+◌, Bool, ◌&&◌, nat_le, nat_lt, List, [], ◌∷◌, ◌++◌, Option, option_map, map, length, reverse, find, flat_map, string_bytes}
use Rattle.std.specs.Char.{encode_utf8}
use Rattle.marked_lines.specs.declared.runs.Field.{Field}
use Rattle.marked_lines.specs.declared.runs.Run.{Run}

-- Whether the byte at this position is in the field.
abbrev pub has_byte : ℕ → Field → Bool
has_byte at field = nat_le field.start at && nat_lt at field.end

-- The key of the byte at this position: that of the last field that has it. That is the innermost one,
-- since a field comes after those around it.
abbrev pub key_at : List Field → ℕ → Option ℕ
key_at fields at = option_map (λ field. field.key) (find (has_byte at) (reverse fields))

-- Some bytes, each with this key.
abbrev pub with_key : Option ℕ → List ℕ → List (Option ℕ × ℕ)
with_key key bytes = map (λ b. (key, b)) bytes

-- The bytes of these characters, each with its key, if the first character is at this position: the
-- bytes of a character have the key of the first of them.
abbrev pub keyed_bytes : List Field → ℕ → List ℕ → List (Option ℕ × ℕ)
keyed_bytes fields at [] = []
keyed_bytes fields at (c ∷ cs) = with_key (key_at fields at) (encode_utf8 c)
    ++ keyed_bytes fields (at + length (encode_utf8 c)) cs

-- The bytes of a run, each with the key of the run.
abbrev pub run_bytes : Run → List (Option ℕ × ℕ)
run_bytes run = with_key run.key (string_bytes run.text)

-- The text of some runs.
abbrev pub runs_text : List Run → List ℕ
runs_text runs = flat_map (λ run. string_bytes run.text) runs
