-- Members that are written by a plan have the values of its fields at their places, and no other values.
use Rattle.std.proofs.Common.{◌≡◌, ℕ, List, [], ◌∷◌, ◌++◌, Bool, true, false, ◌&&◌, Option, Some, None, if◌then◌else◌, refl, sym, ap, ◌∙◌, flat_map, map}
use Rattle.std.specs.Str.{bytes_eq}
use Rattle.std.proofs.lemmas.Slice.Eq.{bytes_eq-Decides}
use Rattle.json.specs.Json.{Json, null, boolean, number, string, array, object, Members, no_members, member}
use Rattle.groklog_answers.specs.Plans.{FieldText}
use Rattle.groklog_answers.specs.PlannedFields.{key_values, one_or_array, members_in, is_object, inside, after, put, put_field, field_value, planned_members}
use Rattle.groklog_answers.specs.AnswerLaws.{inside_name, values_in, values_at, value_of_field, EachValueIsAtItsPlace}
use Rattle.groklog_answers.proofs.PlannedTokens.{AreLeaves, values_are_leaves}

leaf_at : (name : List ℕ) (value : Json) → is_object value ≡ false → values_at value name ≡ (name ∷ [], value) ∷ []
leaf_at name null leaf = refl
leaf_at name (boolean b) leaf = refl
leaf_at name (number text) leaf = refl
leaf_at name (string text) leaf = refl
leaf_at name (array items) leaf = refl
leaf_at name (object inner) leaf = cc

-- ---- the first member, whether it is the object with this name or not

same_name : (name other : List ℕ) (value : Json) (more : Members) → name ≡ other
    → map (inside_name name) (values_in (members_in value)) ++ values_in (if true && is_object value then more else member other value more)
    ≡ values_in (member other value more)
same_name name other null more same = refl
same_name name other (boolean b) more same = refl
same_name name other (number text) more same = refl
same_name name other (string text) more same = refl
same_name name other (array items) more same = refl
same_name name other (object inner) more same = rw same refl

by_name : (b : Bool) (name other : List ℕ) (value : Json) (more : Members) → (b ≡ true → name ≡ other)
    → map (inside_name name) (values_in (if b then members_in value else no_members)) ++ values_in (if b && is_object value then more else member other value more)
    ≡ values_in (member other value more)
by_name true name other value more same = same_name name other value more (same refl)
by_name false name other value more same = refl

all_values : (name : List ℕ) (members : Members)
    → map (inside_name name) (values_in (inside name members)) ++ values_in (after name members) ≡ values_in members
all_values name no_members = refl
all_values name (member other value more) =
    by_name (bytes_eq name other) name other value more (bytes_eq-Decides name other).0

-- ---- a value that is put before others

put_value : (parents : List (List ℕ)) (name : List ℕ) (value : Json) (members : Members) → is_object value ≡ false
    → values_in (put parents name value members) ≡ (parents ++ name ∷ [], value) ∷ values_in members
put_value [] name value members leaf = ap (λ first. first ++ values_in members) (leaf_at name value leaf)
put_value (parent ∷ parents) name value members leaf =
    ap (λ first. map (inside_name parent) first ++ values_in (after parent members))
    (put_value parents name value (inside parent members) leaf)
    ∙ ap (λ rest. (parent ∷ (parents ++ name ∷ []), value) ∷ rest) (all_values parent members)

one_is_leaf : (values : List Json) (value : Json) → AreLeaves values → one_or_array values ≡ Some value → is_object value ≡ false
one_is_leaf [] value leaves is = cc
one_is_leaf (first ∷ []) value leaves is = let same : first ≡ value = cc in ap is_object (sym same) ∙ leaves.0
one_is_leaf (first ∷ (other ∷ more)) null leaves is = refl
one_is_leaf (first ∷ (other ∷ more)) (boolean b) leaves is = refl
one_is_leaf (first ∷ (other ∷ more)) (number text) leaves is = refl
one_is_leaf (first ∷ (other ∷ more)) (string text) leaves is = refl
one_is_leaf (first ∷ (other ∷ more)) (array items) leaves is = refl
one_is_leaf (first ∷ (other ∷ more)) (object inner) leaves is = cc

field_values : (value : Option Json) (field : FieldText) (members : Members) → ((one : Json) → value ≡ Some one → is_object one ≡ false)
    → values_in (put_field field value members) ≡ value_of_field field value ++ values_in members
field_values None field members leaf = refl
field_values (Some value) field members leaf = put_value field.parents field.name value members (leaf value refl)

pub each_value_is_at_its_place : EachValueIsAtItsPlace
each_value_is_at_its_place layout found [] = refl
each_value_is_at_its_place layout found (field ∷ fields) =
    field_values (field_value layout found field) field (planned_members layout found fields)
    (λ one is. one_is_leaf (flat_map (key_values layout found) field.keys) one (values_are_leaves layout found field.keys) is)
    ∙ ap (λ rest. value_of_field field (field_value layout found field) ++ rest) (each_value_is_at_its_place layout found fields)
