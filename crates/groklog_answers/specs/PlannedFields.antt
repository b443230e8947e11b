-- The members for a match that is written by a plan.
use Rattle.std.specs.Prelude.{ℕ, List, [], ◌∷◌, Bool, true, false, ◌&&◌, ◌==◌, Option, Some, None, if◌then◌else◌, flat_map, length}
use Rattle.std.specs.FinMap as finite
use Rattle.std.specs.Str.{bytes_eq}
use Rattle.grok.specs.Maps.{Texts}
use Rattle.json.specs.Json.{Json, null, boolean, number, string, array, object, Items, no_items, item, Members, no_members, member}
use Rattle.groklog_answers.specs.Values.{json_value}
use Rattle.groklog_answers.specs.Layouts.{LayoutValue}
use Rattle.groklog_answers.specs.Patterns.{MatchText}
use Rattle.groklog_answers.specs.Plans.{FieldText}

-- The extract of the key `name`, which decides how its value is written. It is `None` if the key
-- has no extract, or if `typed` is false.
abbrev pub extract_for : Bool → Texts → List ℕ → Option (List ℕ)
extract_for typed extracts name = if typed then finite.get extracts name else None

-- ---- values

-- The value, unless it is left out: an empty one is if `drops_empty` is true.
abbrev pub kept_value : Bool → Option (List ℕ) → Option (List ℕ)
kept_value drops_empty None = None
kept_value drops_empty (Some value) = if drops_empty && (length value == 0) then None else Some value

-- The value as it is written, or nothing if there is none.
abbrev pub written_value : Option (List ℕ) → Option (List ℕ) → List Json
written_value extract None = []
written_value extract (Some value) = json_value extract value ∷ []

-- The value of a key in a match as it is written, or nothing if it has none or it is left out.
abbrev pub key_values : LayoutValue → MatchText → List ℕ → List Json
key_values layout found key =
    written_value (extract_for layout.typed found.extracts key) (kept_value layout.drops_empty (found.value key))

-- The items of a JSON array.
abbrev pub items_of : List Json → Items
items_of [] = no_items
items_of (value ∷ more) = item value (items_of more)

-- How the values of a member are written: one of them as itself, and several as an array. Without a
-- value there is no member.
abbrev pub one_or_array : List Json → Option Json
one_or_array [] = None
one_or_array (value ∷ []) = Some value
one_or_array (value ∷ (other ∷ more)) = Some (array (items_of (value ∷ (other ∷ more))))

-- ---- nested objects

-- The members of a value that is an object.
abbrev pub members_in : Json → Members
members_in null = no_members
members_in (boolean b) = no_members
members_in (number text) = no_members
members_in (string text) = no_members
members_in (array items) = no_members
members_in (object inner) = inner

-- Whether a value is an object.
abbrev pub is_object : Json → Bool
is_object null = false
is_object (boolean b) = false
is_object (number text) = false
is_object (string text) = false
is_object (array items) = false
is_object (object inner) = true

-- The members of the object that comes first in these members, if it has this name. Otherwise there
-- are none.
abbrev pub inside : List ℕ → Members → Members
inside name no_members = no_members
inside name (member other value more) = if bytes_eq name other then members_in value else no_members

-- The members after that object, or all of them if it doesn't come first.
abbrev pub after : List ℕ → Members → Members
after name no_members = no_members
after name (member other value more) =
    if bytes_eq name other && is_object value then more else member other value more

-- The members with a value before them, at the place that `parents` and `name` lead to. If the first
-- member is the object for the first of the parents, the value is put into that object.
abbrev pub put : List (List ℕ) → List ℕ → Json → Members → Members
put [] name value members = member name value members
put (parent ∷ parents) name value members =
    member parent (object (put parents name value (inside parent members))) (after parent members)

-- The members with the value of a field, if it has one, before them.
abbrev pub put_field : FieldText → Option Json → Members → Members
put_field field None members = members
put_field field (Some value) members = put field.parents field.name value members

-- The value of a field as it is written, if it has one.
abbrev pub field_value : LayoutValue → MatchText → FieldText → Option Json
field_value layout found field = one_or_array (flat_map (key_values layout found) field.keys)

-- THE MEMBERS for a match that is written by a plan. Each field of the plan that has a value is at its
-- place, in the order of the plan.
abbrev pub planned_members : LayoutValue → MatchText → List FieldText → Members
planned_members layout found [] = no_members
planned_members layout found (field ∷ fields) =
    put_field field (field_value layout found field) (planned_members layout found fields)
