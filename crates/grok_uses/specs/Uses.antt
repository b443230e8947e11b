-- What the example callers compute from patterns and matches.
use Rattle.std.specs.Prelude.{ℕ, List, [], ◌∷◌, Bool, false, Option, Some, None, nat_eq, if◌then◌else◌, map, filter}
use Rattle.std.specs.Option.{option_map_or}
use Rattle.std.specs.List.{list_any, starts_with}
use Rattle.std.specs.Str.{bytes_eq}
use Rattle.std.specs.FinMap as finite
use Rattle.grok.specs.{Piece, Regular, Placeholder, Malformed, PatternValue, walk}

-- What an engine returns for a line: what each group captured (`None` for a group that took no part), or `None` if
-- the line doesn't match.
abbrev pub Answers : Type 0 → Type 0
Answers E = E → List ℕ → Option (List (Option (List ℕ)))

-- The pairs that a pattern finds in a line: keys with their values. If the line doesn't match, the list is empty.
abbrev pub pairs_in : {E : Type 0} → Answers E → PatternValue E → List ℕ → List (List ℕ × List ℕ)
pairs_in finds pattern line = option_map_or (walk pattern.keys) (finds pattern.engine line) []

-- Whether the key has a value in the line.
abbrev pub has_key : {E : Type 0} → Answers E → PatternValue E → List ℕ → List ℕ → Bool
has_key finds pattern key line = list_any (λ pair. bytes_eq pair.0 key) (pairs_in finds pattern line)

-- Whether the key of a pair has this extract.
abbrev pub is_of_kind : {E : Type 0} → PatternValue E → List ℕ → List ℕ × List ℕ → Bool
is_of_kind pattern kind pair = option_map_or (λ extract. bytes_eq extract kind)
    (finite.get pattern.extracts pair.0) false

-- The values whose key has this extract.
abbrev pub values_of_kind : {E : Type 0} → PatternValue E → List ℕ → List (List ℕ × List ℕ) → List (List ℕ)
values_of_kind pattern kind pairs = map (λ pair. pair.1) (filter (is_of_kind pattern kind) pairs)

-- The name in a piece that is a placeholder, and `None` for any other piece.
abbrev pub name_of : Piece → Option (List ℕ)
name_of (Regular from to text) = None
name_of (Placeholder from to text parts) = Some parts.name
name_of (Malformed fault) = None

-- The whole line as group 0 if the line begins with the text, and otherwise `None`: no match.
abbrev pub prefix_answer : List ℕ → List ℕ → Option (List (Option (List ℕ)))
prefix_answer text line = if starts_with nat_eq line text then Some (Some line ∷ []) else None
