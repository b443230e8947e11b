-- The fields of a plan are written one after the other, and the tokens are those of the nested members.
use Rattle.std.proofs.Common.{◌≡◌, ℕ, suc, List, [], ◌∷◌, ◌++◌, Bool, true, false, ◌&&◌, Option, Some, None, if◌then◌else◌, refl, sym, ap, ◌∙◌, append_assoc, flat_map, map, drop, length, ◌+◌, ◌<◌, arith}
use Rattle.std.proofs.lemmas.List.{append_cancel_right, drop_more, drop-map}
use Rattle.std.specs.List.{AllByRecursion}
use Rattle.std.specs.Str.{bytes_eq}
use Rattle.json.specs.Token.{Token}
use Rattle.json.specs.Json.{Json, null, boolean, number, string, array, object, Members, no_members, member}
use Rattle.json.specs.Tree.{json_tokens, items_tokens, members_tokens}
use Rattle.groklog_answers.specs.Values.{is_written_as_number, number_form}
use Rattle.groklog_answers.specs.Layouts.{LayoutValue}
use Rattle.groklog_answers.specs.Patterns.{MatchText}
use Rattle.groklog_answers.specs.Plans.{FieldText}
use Rattle.groklog_answers.specs.PlannedFields.{kept_value, written_value, key_values, extract_for, items_of, one_or_array, members_in, is_object, inside, after, put, put_field}
use Rattle.groklog_answers.specs.Objects.{member_tokens, pairs_of}
use Rattle.groklog_answers.specs.steps.OpenObjects.{closing, opening, shared_len, moving, left_tokens}

-- ---- lists of tokens

pub values_append : (a b : List Json) → flat_map json_tokens (a ++ b) ≡ flat_map json_tokens a ++ flat_map json_tokens b
values_append [] b = refl
values_append (value ∷ more) b =
    ap (λ ts. json_tokens value ++ ts) (values_append more b)
    ∙ sym (append_assoc (json_tokens value) (flat_map json_tokens more) (flat_map json_tokens b))

regrouped : (before : List Token) (t : Token) (a b c : List Token)
    → (before ++ (t ∷ (a ++ b))) ++ c ≡ before ++ (t ∷ (a ++ (b ++ c)))
regrouped before t a b c =
    append_assoc before (t ∷ (a ++ b)) c ∙ ap (λ ts. before ++ (t ∷ ts)) (append_assoc a b c)

-- ---- objects that are open

closing_push : (names : List (List ℕ)) → closing names ++ Token.end_object ∷ [] ≡ Token.end_object ∷ closing names
closing_push [] = refl
closing_push (name ∷ names) = ap (λ ts. Token.end_object ∷ ts) (closing_push names)

-- If no members are left, the open objects are closed, and then the whole one.
pub left_closed : (names : List (List ℕ)) → left_tokens names no_members ≡ closing names ++ Token.end_object ∷ []
left_closed [] = refl
left_closed (name ∷ names) = ap (λ ts. ts ++ Token.end_object ∷ []) (left_closed names ∙ closing_push names)

-- ---- a member that is put before others

put_tokens : (parents : List (List ℕ)) (name : List ℕ) (value : Json) (members : Members)
    → members_tokens (put parents name value members)
    ≡ opening parents ++ (Token.key name ∷ (json_tokens value ++ left_tokens parents members))
put_tokens [] name value members = refl
put_tokens (parent ∷ parents) name value members =
    ap (λ ts. Token.key parent ∷ (Token.begin_object ∷ ts))
    (ap (λ ts. ts ++ members_tokens (after parent members)) (put_tokens parents name value (inside parent members))
    ∙ regrouped (opening parents) (Token.key name) (json_tokens value) (left_tokens parents (inside parent members)) (members_tokens (after parent members)))

no_members_inside : (b : Bool) (value : Json) → is_object value ≡ false → (if b then members_in value else no_members) ≡ no_members
no_members_inside false value leaf = refl
no_members_inside true null leaf = refl
no_members_inside true (boolean b) leaf = refl
no_members_inside true (number text) leaf = refl
no_members_inside true (string text) leaf = refl
no_members_inside true (array items) leaf = refl
no_members_inside true (object inner) leaf = cc

all_after : (b c : Bool) (more members : Members) → c ≡ false → (if b && c then more else members) ≡ members
all_after true true more members leaf = cc
all_after true false more members leaf = refl
all_after false c more members leaf = refl

moved_by : (b : Bool) (opened parents : List (List ℕ)) (o p name : List ℕ) (value : Json) (put_in rest left_in : Members)
    → members_tokens (member p (object put_in) rest)
    ≡ opening (p ∷ parents) ++ (Token.key name ∷ (json_tokens value ++ (left_tokens parents left_in ++ members_tokens rest)))
    → left_tokens opened put_in ≡ moving opened parents ++ (Token.key name ∷ (json_tokens value ++ left_tokens parents left_in))
    → left_tokens opened (if b then put_in else no_members) ++ members_tokens (if b && true then rest else member p (object put_in) rest)
    ≡ (if b then moving opened parents else closing (o ∷ opened) ++ opening (p ∷ parents))
    ++ (Token.key name ∷ (json_tokens value ++ (left_tokens parents left_in ++ members_tokens rest)))
moved_by true opened parents o p name value put_in rest left_in whole inner =
    ap (λ ts. ts ++ members_tokens rest) inner
    ∙ regrouped (moving opened parents) (Token.key name) (json_tokens value) (left_tokens parents left_in) (members_tokens rest)
moved_by false opened parents o p name value put_in rest left_in whole inner =
    ap (λ ts. ts ++ members_tokens (member p (object put_in) rest)) (left_closed opened ∙ closing_push opened)
    ∙ ap (λ ts. closing (o ∷ opened) ++ ts) whole
    ∙ sym (append_assoc (closing (o ∷ opened)) (opening (p ∷ parents)) _)

-- A value that isn't an object is put before members while objects are open: the objects are moved to its
-- parents, then the value is written, and then what is left there.
moved_put : (opened parents : List (List ℕ)) (name : List ℕ) (value : Json) (members : Members) → is_object value ≡ false
    → left_tokens opened (put parents name value members)
    ≡ moving opened parents ++ (Token.key name ∷ (json_tokens value ++ left_tokens parents members))
moved_put [] parents name value members leaf = put_tokens parents name value members
moved_put (o ∷ opened) [] name value members leaf =
    ap (λ ms. left_tokens opened ms ++ members_tokens (after o (member name value members))) (no_members_inside (bytes_eq o name) value leaf)
    ∙ ap (λ ms. left_tokens opened no_members ++ members_tokens ms) (all_after (bytes_eq o name) (is_object value) members (member name value members) leaf)
    ∙ ap (λ ts. ts ++ members_tokens (member name value members)) (left_closed opened ∙ closing_push opened)
moved_put (o ∷ opened) (p ∷ parents) name value members leaf =
    moved_by (bytes_eq o p) opened parents o p name value (put parents name value (inside p members)) (after p members) (inside p members)
    (put_tokens (p ∷ parents) name value members)
    (moved_put opened parents name value (inside p members) leaf)

-- What is left to write stays the same where a value is written.
pub put_is_written : (before : List Token) (opened parents : List (List ℕ)) (name : List ℕ) (value : Json) (members : Members)
    → is_object value ≡ false
    → (((before ++ moving opened parents) ++ Token.key name ∷ []) ++ json_tokens value) ++ left_tokens parents members
    ≡ before ++ left_tokens opened (put parents name value members)
put_is_written before opened parents name value members leaf =
    rw (moved_put opened parents name value members leaf)
    (regroup before (moving opened parents) (Token.key name) (json_tokens value) (left_tokens parents members))
  where
    regroup : (a b : List Token) (t : Token) (c d : List Token) → (((a ++ b) ++ t ∷ []) ++ c) ++ d ≡ a ++ (b ++ (t ∷ (c ++ d)))
    regroup a b t c d = simp append_assoc

-- ---- how objects are moved

moving_by : (b : Bool) (o p : List ℕ) (opened parents : List (List ℕ)) (n : ℕ)
    → moving opened parents ≡ closing (drop n opened) ++ opening (drop n parents)
    → (if b then moving opened parents else closing (o ∷ opened) ++ opening (p ∷ parents))
    ≡ closing (drop (if b then suc n else 0) (o ∷ opened)) ++ opening (drop (if b then suc n else 0) (p ∷ parents))
moving_by true o p opened parents n same = same
moving_by false o p opened parents n same = refl

append_nothing : (ts : List Token) → ts ++ [] ≡ ts
append_nothing [] = refl
append_nothing (t ∷ ts) = ap (λ more. t ∷ more) (append_nothing ts)

-- The objects after the shared ones are closed, and the new ones after them are opened.
pub moving_is : (opened parents : List (List ℕ))
    → moving opened parents ≡ closing (drop (shared_len opened parents) opened) ++ opening (drop (shared_len opened parents) parents)
moving_is [] parents = refl
moving_is (o ∷ opened) [] = sym (append_nothing (closing (o ∷ opened)))
moving_is (o ∷ opened) (p ∷ parents) =
    moving_by (bytes_eq o p) o p opened parents (shared_len opened parents) (moving_is opened parents)

-- ---- the values of a field

value_is_leaf : (b : Bool) (form value : List ℕ) → is_object (if b then number form else string value) ≡ false
value_is_leaf true form value = refl
value_is_leaf false form value = refl

-- No value is an object.
abbrev pub AreLeaves : List Json → Type 0
AreLeaves = AllByRecursion (λ value. is_object value ≡ false)

both_are_leaves : (a b : List Json) → AreLeaves a → AreLeaves b → AreLeaves (a ++ b)
both_are_leaves [] b h k = k
both_are_leaves (value ∷ a) b h k = (h.0, both_are_leaves a b h.1 k)

written_are_leaves : (extract value : Option (List ℕ)) → AreLeaves (written_value extract value)
written_are_leaves extract None = tt
written_are_leaves extract (Some value) = (value_is_leaf (is_written_as_number extract (number_form value)) (number_form value) value, tt)

pub values_are_leaves : (layout : LayoutValue) (found : MatchText) (keys : List (List ℕ))
    → AreLeaves (flat_map (key_values layout found) keys)
values_are_leaves layout found [] = tt
values_are_leaves layout found (key ∷ keys) =
    both_are_leaves _ _
    (written_are_leaves (extract_for layout.typed found.extracts key) (kept_value layout.drops_empty (found.value key)))
    (values_are_leaves layout found keys)

pub written_some : {A : Type 0} (f : A → List ℕ) (x : A) (extract value : Option (List ℕ)) → Some (f x) ≡ value
    → length (written_value extract value) ≡ 1
written_some f x extract None is = cc
written_some f x extract (Some value) is = refl

pub written_none : (extract value : Option (List ℕ)) → None ≡ value → length (written_value extract value) ≡ 0
written_none extract None is = refl
written_none extract (Some value) is = cc

-- If there are values, they are written as one, which isn't an object.
pub some_value : (values : List Json) → AreLeaves values → (length values ≡ 0 → ⊥)
    → (value : Json) × (one_or_array values ≡ Some value) × (is_object value ≡ false)
some_value [] leaves some = absurd (some refl)
some_value (value ∷ []) leaves some = (value, refl, leaves.0)
some_value (value ∷ (other ∷ more)) leaves some = (array (items_of (value ∷ (other ∷ more))), refl, refl)

pub no_value : (values : List Json) → length values ≡ 0 → one_or_array values ≡ None
no_value [] none = refl
no_value (value ∷ more) none = absurd (omega arith)

items_are : (values : List Json) → items_tokens (items_of values) ≡ flat_map json_tokens values ++ Token.end_array ∷ []
items_are [] = refl
items_are (value ∷ more) =
    ap (λ ts. json_tokens value ++ ts) (items_are more)
    ∙ sym (append_assoc (json_tokens value) (flat_map json_tokens more) (Token.end_array ∷ []))

pub one_tokens : (values : List Json) (value : Json) → length values ≡ 1 → one_or_array values ≡ Some value
    → flat_map json_tokens values ≡ json_tokens value
one_tokens [] value one is = absurd (omega arith)
one_tokens (first ∷ []) value one is = let same : first ≡ value = cc in append_nothing (json_tokens first) ∙ ap json_tokens same
one_tokens (first ∷ (other ∷ more)) value one is = absurd (omega arith)

pub array_tokens : (values : List Json) (value : Json) → (length values ≡ 1 → ⊥) → one_or_array values ≡ Some value
    → Token.begin_array ∷ (flat_map json_tokens values ++ Token.end_array ∷ []) ≡ json_tokens value
array_tokens [] value several is = cc
array_tokens (first ∷ []) value several is = absurd (several refl)
array_tokens (first ∷ (other ∷ more)) value several is =
    let same : array (items_of (first ∷ (other ∷ more))) ≡ value = cc in
    ap (λ ts. Token.begin_array ∷ ts) (sym (items_are (first ∷ (other ∷ more)))) ∙ ap json_tokens same

-- ---- the members as a list

pub pairs_tokens : (members : Members) → members_tokens members ≡ flat_map member_tokens (pairs_of members) ++ Token.end_object ∷ []
pairs_tokens no_members = refl
pairs_tokens (member name value more) =
    ap (λ ts. Token.key name ∷ (json_tokens value ++ ts)) (pairs_tokens more)
    ∙ sym (append_assoc (member_tokens (name, value)) (flat_map member_tokens (pairs_of more)) (Token.end_object ∷ []))

-- ---- a field, and all of them

-- A field that has values is written: the objects are moved, and then its name and its value come. What is
-- left to write after it is what was left with the field.
pub field_is_written : (before written : List Token) (opened : List (List ℕ)) (field : FieldText) (values : List Json) (more : Members)
    → AreLeaves values → (length values ≡ 0 → ⊥)
    → ((value : Json) → one_or_array values ≡ Some value
    → written ≡ ((before ++ moving opened field.parents) ++ Token.key field.name ∷ []) ++ json_tokens value)
    → written ++ left_tokens field.parents more ≡ before ++ left_tokens opened (put_field field (one_or_array values) more)
field_is_written before written opened field values more leaves some is =
    let found = some_value values leaves some in
    ap (λ ts. ts ++ left_tokens field.parents more) (is found.0 found.1)
    ∙ put_is_written before opened field.parents field.name found.0 more found.2
    ∙ ap (λ value. before ++ left_tokens opened (put_field field value more)) (sym found.1)

-- After the last field, the open objects are closed, and all members were written.
pub all_are_written : (start tokens closed : List Token) (opened : List (List ℕ)) (members : Members)
    → tokens ++ left_tokens opened no_members ≡ start ++ members_tokens members
    → closed ≡ tokens ++ closing opened
    → closed ≡ start ++ flat_map member_tokens (pairs_of members)
all_are_written start tokens closed opened members left is =
    append_cancel_right closed (start ++ flat_map member_tokens (pairs_of members)) (Token.end_object ∷ [])
    (ap (λ ts. ts ++ Token.end_object ∷ []) is
    ∙ append_assoc tokens (closing opened) (Token.end_object ∷ [])
    ∙ ap (λ ts. tokens ++ ts) (sym (left_closed opened))
    ∙ left
    ∙ ap (λ ts. start ++ ts) (pairs_tokens members)
    ∙ sym (append_assoc start (flat_map member_tokens (pairs_of members)) (Token.end_object ∷ [])))

-- ---- one more object, and the parts of an array

pub closing_more : {A : Type 0} (f : A → List ℕ) (names : List A) (i : ℕ) → i < length names
    → closing (map f (drop i names)) ≡ Token.end_object ∷ closing (map f (drop (i + 1) names))
closing_more f [] i inside = absurd (omega arith)
closing_more f (name ∷ names) i inside = ap (λ rest. closing (map f rest)) (drop_more (name ∷ names) i name inside)

pub array_regrouped : (before : List Token) (a : Token) (values : List Token) (b : Token)
    → ((before ++ a ∷ []) ++ values) ++ b ∷ [] ≡ before ++ (a ∷ (values ++ b ∷ []))
array_regrouped before a values b = simp append_assoc

-- The objects are moved in two parts: those that aren't shared are closed, and the new ones are opened.
pub moved_in_parts : {A : Type 0} (f : A → List ℕ) (opened parents : List A) (n : ℕ) (before closed moved : List Token)
    → n ≡ shared_len (map f opened) (map f parents)
    → closed ≡ before ++ closing (map f (drop n opened)) → moved ≡ closed ++ opening (map f (drop n parents))
    → moved ≡ before ++ moving (map f opened) (map f parents)
moved_in_parts f opened parents n before closed moved is closed_is moved_is =
    moved_is ∙ ap (λ ts. ts ++ opening (map f (drop n parents))) closed_is
    ∙ append_assoc before (closing (map f (drop n opened))) (opening (map f (drop n parents)))
    ∙ ap (λ ts. before ++ ts)
    (ap (λ names. closing names ++ opening (map f (drop n parents))) (sym (drop-map f n opened))
    ∙ ap (λ names. closing (drop n (map f opened)) ++ opening names) (sym (drop-map f n parents))
    ∙ ap (λ k. closing (drop k (map f opened)) ++ opening (drop k (map f parents))) is
    ∙ sym (moving_is (map f opened) (map f parents)))
