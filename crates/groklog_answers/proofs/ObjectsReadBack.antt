-- The object of a line reads back as its members.
use Rattle.std.proofs.Common.{◌≡◌, ℕ, zero, suc, ◌+◌, ◌≤◌, ◌==◌, List, [], ◌∷◌, ◌++◌, Bool, true, false, not, ◌&&◌, ◌||◌, Option, Some, None, Result, Ok, Err, option_map, if◌then◌else◌, refl, flat_map, length, arith}
use Rattle.std.specs.List.{AllByRecursion}
use Rattle.std.specs.Option.{option_to_list}
use Rattle.std.specs.Str.{bytes_eq}
use Rattle.grok.specs.Maps.{Texts}
use Rattle.grok.specs.Numeral.{numeral}
use Rattle.json.specs.Json.{Json, null, boolean, number, string, array, object, Members, no_members, member}
use Rattle.json.specs.Print.{IsNumber}
use Rattle.json.specs.Tree.{HasNumbers, ItemsHaveNumbers, MembersHaveNumbers, depth, items_depth, members_depth}
use Rattle.json.proofs.Printed.Trees.{document-print}
use Rattle.groklog_answers.specs.Layouts.{LayoutValue, is_chosen}
use Rattle.groklog_answers.specs.Patterns.{MatchText}
use Rattle.groklog_answers.specs.Plans.{FieldText, IsShallow}
use Rattle.groklog_answers.specs.AnsweredTexts.{AnsweredText, added_text}
use Rattle.groklog_answers.specs.declared.layout.Addition.{Addition}
use Rattle.groklog_answers.specs.declared.layout.Addition.TheVariants.{Number, File, Failed, Tag, Line}
use Rattle.groklog_answers.specs.declared.layout.Failure.{Failure}
use Rattle.groklog_answers.specs.Values.{is_written_as_number, number_form, json_value}
use Rattle.groklog_answers.specs.PlannedFields.{kept_value, written_value, key_values, extract_for, items_of, one_or_array, members_in, is_object, inside, after, put, put_field, planned_members}
use Rattle.groklog_answers.specs.Objects.{KeyValues, members_of, pairs_of, typed_pair, field_members, added_members, fields_by, fields_of, failure_tag, answer_members}
use Rattle.groklog_answers.specs.AnswerLaws.{HasShallowPlan, IsShallowLine, AnswersReadBack}
use Rattle.groklog_answers.proofs.NumbersAreJson.{written_is_number}
use Rattle.groklog_answers.proofs.NumeralsAreJson.{numeral_is_number}

-- ---- values

value_has_numbers : (b : Bool) (form value : List ℕ) → (b ≡ true → IsNumber form) → HasNumbers (if b then number form else string value)
value_has_numbers true form value h = h refl
value_has_numbers false form value h = tt

json_value_has_numbers : (extract : Option (List ℕ)) (value : List ℕ) → HasNumbers (json_value extract value)
json_value_has_numbers extract value =
    value_has_numbers (is_written_as_number extract (number_form value)) (number_form value) value
    (written_is_number extract (number_form value))

value_has_no_depth : (b : Bool) (form value : List ℕ) → depth (if b then number form else string value) ≡ 0
value_has_no_depth true form value = refl
value_has_no_depth false form value = refl

json_value_has_no_depth : (extract : Option (List ℕ)) (value : List ℕ) → depth (json_value extract value) ≡ 0
json_value_has_no_depth extract value =
    value_has_no_depth (is_written_as_number extract (number_form value)) (number_form value) value

-- ---- properties of the members of an answer

-- The property holds of the value of each member.
abbrev pub AllValues : (Json → Type 0) → KeyValues → Type 0
AllValues P members = AllByRecursion (λ pair. P pair.1) members

-- The property holds of the values that an answer is made of.
pub record HoldsOfParts (P : Json → Type 0) : Type 0 where
  strings : (text : List ℕ) → P (string text)
  numbers : (n : ℕ) → P (number (numeral n))
  values : (extract : Option (List ℕ)) (value : List ℕ) → P (json_value extract value)
  tags : AllValues P (failure_tag true)

both_hold : (P : Json → Type 0) (a b : KeyValues) → AllValues P a → AllValues P b → AllValues P (a ++ b)
both_hold P [] b h k = k
both_hold P (pair ∷ a) b h k = (h.0, both_hold P a b h.1 k)

optional_holds : (P : Json → Type 0) → HoldsOfParts P → (key : List ℕ) (text : Option (List ℕ))
    → AllValues P (option_to_list (option_map (λ text. (key, string text)) text))
optional_holds P parts key None = tt
optional_holds P parts key (Some text) = (parts.strings text, tt)

added_holds : (P : Json → Type 0) → HoldsOfParts P → (line : AnsweredText) (what : Addition) (key : List ℕ)
    → AllValues P (added_members line (what, key))
added_holds P parts line Number key = (parts.numbers line.number, tt)
added_holds P parts line File key = (parts.strings line.layout.file_name, tt)
added_holds P parts line Failed key = optional_holds P parts key (added_text line Failed)
added_holds P parts line Tag key = optional_holds P parts key (added_text line Tag)
added_holds P parts line Line key = (parts.strings line.text, tt)

additions_hold : (P : Json → Type 0) → HoldsOfParts P → (line : AnsweredText) (additions : List (Addition × List ℕ))
    → AllValues P (flat_map (added_members line) additions)
additions_hold P parts line [] = tt
additions_hold P parts line (added ∷ more) =
    both_hold P _ _ (added_holds P parts line added.0 added.1) (additions_hold P parts line more)

tag_holds : (P : Json → Type 0) → HoldsOfParts P → (tags_failures : Bool) → AllValues P (failure_tag tags_failures)
tag_holds P parts true = parts.tags
tag_holds P parts false = tt

written_holds : (P : Json → Type 0) (is_dropped : Bool) (pair : List ℕ × Json) → P pair.1
    → AllValues P (if is_dropped then [] else pair ∷ [])
written_holds P true pair h = tt
written_holds P false pair h = (h, tt)

pairs_hold : (P : Json → Type 0) → HoldsOfParts P → (layout : LayoutValue) (extracts : Texts) (pairs : List (List ℕ × List ℕ))
    → AllValues P (flat_map (field_members layout extracts) pairs)
pairs_hold P parts layout extracts [] = tt
pairs_hold P parts layout extracts (pair ∷ pairs) =
    both_hold P _ _
    (written_holds P (not (is_chosen layout.fields pair.0) || (layout.drops_empty && (length pair.1 == 0))) (typed_pair layout.typed extracts pair)
    (parts.values (extract_for layout.typed extracts pair.0) pair.1))
    (pairs_hold P parts layout extracts pairs)

answer_holds : (P : Json → Type 0) → HoldsOfParts P → (line : AnsweredText)
    → AllValues P (fields_of line.layout line.found) → AllValues P (answer_members line)
answer_holds P parts line fields =
    both_hold P _ _ (additions_hold P parts line line.layout.before)
    (both_hold P _ _ fields (additions_hold P parts line line.layout.after))

-- ---- numbers

number_parts : HoldsOfParts HasNumbers
number_parts = record {
  strings = λ text. tt;
  numbers = numeral_is_number;
  values = json_value_has_numbers;
  tags = ((tt, tt), tt);
}

items_have_numbers : (values : List Json) → AllByRecursion HasNumbers values → ItemsHaveNumbers (items_of values)
items_have_numbers [] h = tt
items_have_numbers (value ∷ more) h = (h.0, items_have_numbers more h.1)

both_have_numbers : (a b : List Json) → AllByRecursion HasNumbers a → AllByRecursion HasNumbers b → AllByRecursion HasNumbers (a ++ b)
both_have_numbers [] b h k = k
both_have_numbers (value ∷ a) b h k = (h.0, both_have_numbers a b h.1 k)

written_have_numbers : (extract value : Option (List ℕ)) → AllByRecursion HasNumbers (written_value extract value)
written_have_numbers extract None = tt
written_have_numbers extract (Some value) = (json_value_has_numbers extract value, tt)

keys_have_numbers : (layout : LayoutValue) (found : MatchText) (keys : List (List ℕ))
    → AllByRecursion HasNumbers (flat_map (key_values layout found) keys)
keys_have_numbers layout found [] = tt
keys_have_numbers layout found (key ∷ keys) =
    both_have_numbers _ _
    (written_have_numbers (extract_for layout.typed found.extracts key) (kept_value layout.drops_empty (found.value key)))
    (keys_have_numbers layout found keys)

inner_have_numbers : (value : Json) → HasNumbers value → MembersHaveNumbers (members_in value)
inner_have_numbers null h = tt
inner_have_numbers (boolean b) h = tt
inner_have_numbers (number text) h = tt
inner_have_numbers (string text) h = tt
inner_have_numbers (array items) h = tt
inner_have_numbers (object inner) h = h

chosen_have_numbers : (b : Bool) (a c : Members) → MembersHaveNumbers a → MembersHaveNumbers c → MembersHaveNumbers (if b then a else c)
chosen_have_numbers true a c h k = h
chosen_have_numbers false a c h k = k

inside_have_numbers : (name : List ℕ) (members : Members) → MembersHaveNumbers members → MembersHaveNumbers (inside name members)
inside_have_numbers name no_members h = tt
inside_have_numbers name (member other value more) h =
    chosen_have_numbers (bytes_eq name other) (members_in value) no_members (inner_have_numbers value h.0) tt

after_have_numbers : (name : List ℕ) (members : Members) → MembersHaveNumbers members → MembersHaveNumbers (after name members)
after_have_numbers name no_members h = tt
after_have_numbers name (member other value more) h =
    chosen_have_numbers (bytes_eq name other && is_object value) more (member other value more) h.1 h

put_has_numbers : (parents : List (List ℕ)) (name : List ℕ) (value : Json) (members : Members)
    → HasNumbers value → MembersHaveNumbers members → MembersHaveNumbers (put parents name value members)
put_has_numbers [] name value members h k = (h, k)
put_has_numbers (parent ∷ parents) name value members h k =
    (put_has_numbers parents name value (inside parent members) h (inside_have_numbers parent members k), after_have_numbers parent members k)

field_has_numbers : (field : FieldText) (values : List Json) (members : Members)
    → AllByRecursion HasNumbers values → MembersHaveNumbers members → MembersHaveNumbers (put_field field (one_or_array values) members)
field_has_numbers field [] members h k = k
field_has_numbers field (value ∷ []) members h k = put_has_numbers field.parents field.name value members h.0 k
field_has_numbers field (value ∷ (other ∷ more)) members h k =
    put_has_numbers field.parents field.name (array (items_of (value ∷ (other ∷ more)))) members
    (items_have_numbers (value ∷ (other ∷ more)) h) k

plan_has_numbers : (layout : LayoutValue) (found : MatchText) (fields : List FieldText)
    → MembersHaveNumbers (planned_members layout found fields)
plan_has_numbers layout found [] = tt
plan_has_numbers layout found (field ∷ fields) =
    field_has_numbers field (flat_map (key_values layout found) field.keys) (planned_members layout found fields)
    (keys_have_numbers layout found field.keys) (plan_has_numbers layout found fields)

pairs_have_numbers : (members : Members) → MembersHaveNumbers members → AllValues HasNumbers (pairs_of members)
pairs_have_numbers no_members h = tt
pairs_have_numbers (member name value more) h = (h.0, pairs_have_numbers more h.1)

fields_have_numbers : (layout : LayoutValue) (found : MatchText) (plan : Option (List FieldText))
    → AllValues HasNumbers (fields_by layout found plan)
fields_have_numbers layout found None = pairs_hold HasNumbers number_parts layout found.extracts found.pairs
fields_have_numbers layout found (Some fields) = pairs_have_numbers _ (plan_has_numbers layout found fields)

members_have_numbers : (members : KeyValues) → AllValues HasNumbers members → MembersHaveNumbers (members_of members)
members_have_numbers [] h = tt
members_have_numbers (pair ∷ members) h = (h.0, members_have_numbers members h.1)

line_has_numbers : (layout : LayoutValue) (found : Result MatchText Failure) → AllValues HasNumbers (fields_of layout found)
line_has_numbers layout (Ok found) = fields_have_numbers layout found found.plan
line_has_numbers layout (Err why) = tag_holds HasNumbers number_parts layout.tags_failures

-- The numbers in an answer are JSON numbers.
pub answer_has_numbers : (line : AnsweredText) → MembersHaveNumbers (members_of (answer_members line))
answer_has_numbers line =
    members_have_numbers _ (answer_holds HasNumbers number_parts line (line_has_numbers line.layout line.found))

-- ---- how deep objects are nested

-- Objects and arrays nest so deep in the value, and no deeper.
abbrev IsWithin : ℕ → Json → Type 0
IsWithin most value = depth value ≤ most

depth_parts : (most : ℕ) → 1 ≤ most → HoldsOfParts (IsWithin most)
depth_parts most some = record {
  strings = λ text. omega arith;
  numbers = λ n. omega arith;
  values = λ extract value. omega (arith, json_value_has_no_depth extract value);
  tags = (some, tt);
}

-- No value has an object or an array in it.
abbrev AreFlat : List Json → Type 0
AreFlat = AllByRecursion (λ value. depth value ≡ 0)

both_are_flat : (a b : List Json) → AreFlat a → AreFlat b → AreFlat (a ++ b)
both_are_flat [] b h k = k
both_are_flat (value ∷ a) b h k = (h.0, both_are_flat a b h.1 k)

written_are_flat : (extract value : Option (List ℕ)) → AreFlat (written_value extract value)
written_are_flat extract None = tt
written_are_flat extract (Some value) = (json_value_has_no_depth extract value, tt)

keys_are_flat : (layout : LayoutValue) (found : MatchText) (keys : List (List ℕ)) → AreFlat (flat_map (key_values layout found) keys)
keys_are_flat layout found [] = tt
keys_are_flat layout found (key ∷ keys) =
    both_are_flat _ _
    (written_are_flat (extract_for layout.typed found.extracts key) (kept_value layout.drops_empty (found.value key)))
    (keys_are_flat layout found keys)

items_are_flat : (values : List Json) → AreFlat values → items_depth (items_of values) ≡ 0
items_are_flat [] h = refl
items_are_flat (value ∷ more) h = rw (h.0, items_are_flat more h.1) refl

inner_within : (value : Json) (most : ℕ) → depth value ≤ suc most → members_depth (members_in value) ≤ most
inner_within null most h = omega arith
inner_within (boolean b) most h = omega arith
inner_within (number text) most h = omega arith
inner_within (string text) most h = omega arith
inner_within (array items) most h = omega arith
inner_within (object inner) most h = omega arith

chosen_within : (b : Bool) (a c : Members) (most : ℕ) → members_depth a ≤ most → members_depth c ≤ most → members_depth (if b then a else c) ≤ most
chosen_within true a c most h k = h
chosen_within false a c most h k = k

inside_within : (name : List ℕ) (members : Members) (most : ℕ) → members_depth members ≤ suc most → members_depth (inside name members) ≤ most
inside_within name no_members most h = omega arith
inside_within name (member other value more) most h =
    chosen_within (bytes_eq name other) (members_in value) no_members most (inner_within value most (omega arith)) (omega arith)

after_within : (name : List ℕ) (members : Members) (most : ℕ) → members_depth members ≤ most → members_depth (after name members) ≤ most
after_within name no_members most h = h
after_within name (member other value more) most h =
    chosen_within (bytes_eq name other && is_object value) more (member other value more) most (omega arith) h

put_within : (parents : List (List ℕ)) (name : List ℕ) (value : Json) (members : Members) (most : ℕ)
    → length parents + depth value ≤ most → members_depth members ≤ most → members_depth (put parents name value members) ≤ most
put_within [] name value members most h k = omega arith
put_within (parent ∷ parents) name value members zero h k = absurd (omega arith)
put_within (parent ∷ parents) name value members (suc most) h k =
    let put_in = put_within parents name value (inside parent members) most (omega arith) (inside_within parent members most k) in
    let rest = after_within parent members (suc most) k in
    omega (arith, put_in, rest)

field_within : (field : FieldText) (values : List Json) (members : Members) (most : ℕ)
    → AreFlat values → length field.parents + 1 ≤ most → members_depth members ≤ most
    → members_depth (put_field field (one_or_array values) members) ≤ most
field_within field [] members most flat h k = k
field_within field (value ∷ []) members most flat h k =
    put_within field.parents field.name value members most (omega (arith, flat.0)) k
field_within field (value ∷ (other ∷ more)) members most flat h k =
    put_within field.parents field.name (array (items_of (value ∷ (other ∷ more)))) members most
    (omega (arith, items_are_flat (value ∷ (other ∷ more)) flat)) k

plan_within : (layout : LayoutValue) (found : MatchText) (fields : List FieldText) → IsShallow fields
    → members_depth (planned_members layout found fields) ≤ 101
plan_within layout found [] h = omega arith
plan_within layout found (field ∷ fields) h =
    field_within field (flat_map (key_values layout found) field.keys) (planned_members layout found fields) 101
    (keys_are_flat layout found field.keys) (omega (arith, h.0)) (plan_within layout found fields h.1)

pairs_within : (members : Members) (most : ℕ) → members_depth members ≤ most → AllValues (IsWithin most) (pairs_of members)
pairs_within no_members most h = tt
pairs_within (member name value more) most h = (omega arith, pairs_within more most (omega arith))

fields_within : (layout : LayoutValue) (found : MatchText) (plan : Option (List FieldText)) → HasShallowPlan plan
    → AllValues (IsWithin 101) (fields_by layout found plan)
fields_within layout found None h = pairs_hold (IsWithin 101) (depth_parts 101 (omega arith)) layout found.extracts found.pairs
fields_within layout found (Some fields) h = pairs_within _ 101 (plan_within layout found fields h)

line_within : (layout : LayoutValue) (found : Result MatchText Failure) → IsShallowLine found
    → AllValues (IsWithin 101) (fields_of layout found)
line_within layout (Ok found) h = fields_within layout found found.plan h
line_within layout (Err why) h = tag_holds (IsWithin 101) (depth_parts 101 (omega arith)) layout.tags_failures

members_within : (members : KeyValues) (most : ℕ) → AllValues (IsWithin most) members → members_depth (members_of members) ≤ most
members_within [] most h = omega arith
members_within (pair ∷ members) most h = let rest = members_within members most h.1 in omega (arith, h.0, rest)

-- ---- the law

pub answers_read_back : AnswersReadBack
answers_read_back line shallow =
    let within = members_within (answer_members line) 101
    (answer_holds (IsWithin 101) (depth_parts 101 (omega arith)) line (line_within line.layout line.found shallow)) in
    document-print (object (members_of (answer_members line))) (answer_has_numbers line) (omega (arith, within))
