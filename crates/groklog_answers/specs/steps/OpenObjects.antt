-- Objects that are open while members are written, one in the other. They are given by their names, from
-- the outermost one on.
use Rattle.std.specs.Prelude.{ℕ, suc, List, [], ◌∷◌, ◌++◌, Option, Some, None, if◌then◌else◌}
use Rattle.std.specs.Str.{bytes_eq}
use Rattle.json.specs.Token.{Token}
use Rattle.json.specs.Json.{Members}
use Rattle.json.specs.Tree.{members_tokens}
use Rattle.groklog_answers.specs.Plans.{FieldText}
use Rattle.groklog_answers.specs.PlannedFields.{inside, after}

-- The tokens that close these objects.
abbrev pub closing : List (List ℕ) → List Token
closing [] = []
closing (name ∷ names) = Token.end_object ∷ closing names

-- The tokens that open these objects.
abbrev pub opening : List (List ℕ) → List Token
opening [] = []
opening (name ∷ names) = Token.key name ∷ (Token.begin_object ∷ opening names)

-- How many names both lists have in common at their beginnings.
abbrev pub shared_len : List (List ℕ) → List (List ℕ) → ℕ
shared_len [] others = 0
shared_len (name ∷ names) [] = 0
shared_len (name ∷ names) (other ∷ others) = if bytes_eq name other then suc (shared_len names others) else 0

-- The tokens that close and open objects, so that those of the second list are open in place of those of the first.
abbrev pub moving : List (List ℕ) → List (List ℕ) → List Token
moving [] others = opening others
moving (name ∷ names) [] = closing (name ∷ names)
moving (name ∷ names) (other ∷ others) =
    if bytes_eq name other then moving names others else closing (name ∷ names) ++ opening (other ∷ others)

-- The objects that are open after this field was written, or none if no field was.
abbrev pub opened_after : Option FieldText → List (List ℕ)
opened_after None = []
opened_after (Some field) = field.parents

-- The tokens that are left to write while these objects are open: those of the members that belong into
-- the innermost one, its end, those of the members after it, and so on, with the end of the whole object.
abbrev pub left_tokens : List (List ℕ) → Members → List Token
left_tokens [] members = members_tokens members
left_tokens (name ∷ names) members = left_tokens names (inside name members) ++ members_tokens (after name members)
