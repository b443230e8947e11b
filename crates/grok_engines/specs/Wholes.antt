-- What the engines of this crate capture.
use Rattle.std.specs.Prelude.{◌≡◌, ℕ, ◌≤◌, List, [], ◌∷◌, Option, None, Some, map, length, ◌||◌, ◌==◌, ◌%◌, if◌then◌else◌, slice_range}
use Rattle.std.specs.List.{range_with_len}

-- Each line matches. Group 0 captures the whole line, and there is no other group.
abbrev pub whole_line : List ℕ → Option (List (Option (List ℕ)))
whole_line line = Some (Some line ∷ [])

-- What the group with this number captures: the whole line for 0 and for each odd number, and `None` for the others.
abbrev pub line_at : List ℕ → ℕ → Option (List ℕ)
line_at line group = if (group == 0) || (group % 2 == 1) then Some line else None

abbrev pub whole_at_odd : ℕ → List ℕ → Option (List (Option (List ℕ)))
whole_at_odd count line = Some (map (line_at line) (range_with_len 0 count))
