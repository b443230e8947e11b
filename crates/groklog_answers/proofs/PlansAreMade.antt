-- Plans are made of the entries of their keys.
use Rattle.std.proofs.Common.{◌≡◌, ℕ, zero, suc, ◌+◌, ◌<◌, ◌≤◌, ◌==◌, drop, get_or, append_assoc, List, [], ◌∷◌, ◌++◌, Bool, true, false, Option, Some, None, if◌then◌else◌, option_map, unwrap_or, refl, sym, ap, ◌∙◌, subst, length, map, arith}
use Rattle.std.proofs.lemmas.List.{drop_all, drop_more, drop-map, map-append}
use Rattle.std.specs.List.{AllByRecursion, list_any, position_or_len, before_first, after_first}
use Rattle.std.specs.List.{All}
use Rattle.std.specs.List.Sorted.{IsPermutation}
use Rattle.std.proofs.lemmas.List.Sorted.{All-permutation}
use Rattle.std.specs.Ordering.{nat_cmp, is_lt}
use Rattle.std.specs.Str.{bytes_eq}
use Rattle.std.specs.Cmp.Lexicographic.{slice_cmp}
use Rattle.groklog_answers.specs.steps.OpenObjects.{shared_len}
use Rattle.groklog_answers.proofs.FirstBytes.{BeginsOtherwise, other_byte}
use Rattle.groklog_answers.specs.Plans.{name_and_rest, first_name, comes_before, with_more, names_within, most_names, key_names, SharedKeyText, EntryText, entries_from, FieldText, field_at, field_of, continues, gathered, AreInOrder, IsShallow, IsPlan}

-- ---- the member that names lead to

field_at_end : (first : List ℕ) (parents : List (List ℕ)) (name : List ℕ) (keys : List (List ℕ))
    → field_at first (parents ++ name ∷ []) keys ≡ record { parents = first ∷ parents; name = name; keys = keys }
field_at_end first [] name keys = refl
field_at_end first (parent ∷ parents) name keys =
    ap (λ (field : FieldText). record { parents = first ∷ field.parents; name = field.name; keys = keys })
    (field_at_end parent parents name keys)

-- ---- how deep members are

names_are_few_by : (n : ℕ) (more : List ℕ → Option (List (List ℕ))) (found : Option (List ℕ × List ℕ)) (names : List (List ℕ))
    → ((text : List ℕ) (names : List (List ℕ)) → more text ≡ Some names → length names ≤ n)
    → with_more more found ≡ Some names → length names ≤ suc n
names_are_few_by n more None names few is = cc
names_are_few_by n more (Some (name, [])) names few is = let e : name ∷ [] ≡ names = cc in omega (arith, ap length e)
names_are_few_by n more (Some (name, b ∷ rest)) names few is = by (more (b ∷ rest)) (few (b ∷ rest)) is
  where
    by : (o : Option (List (List ℕ))) → ((ns : List (List ℕ)) → o ≡ Some ns → length ns ≤ n)
        → option_map (λ ns. name ∷ ns) o ≡ Some names → length names ≤ suc n
    by None few is = cc
    by (Some ns) few is = let e : name ∷ ns ≡ names = cc in let short = few ns refl in omega (arith, ap length e, short)

names_are_few : (n : ℕ) (text : List ℕ) (names : List (List ℕ)) → names_within n text ≡ Some names → length names ≤ n
unfolding names_within
names_are_few zero text names is = cc
names_are_few (suc n) text names is = names_are_few_by n (names_within n) (first_name text) names (names_are_few n) is

key_has_few_names : (is_nested : Bool) (key : List ℕ) → length (key_names is_nested key) ≤ most_names
key_has_few_names false key = omega arith
key_has_few_names true key = by (names_within most_names key) (names_are_few most_names key)
  where
    by : (o : Option (List (List ℕ))) → ((ns : List (List ℕ)) → o ≡ Some ns → length ns ≤ most_names)
        → length (unwrap_or o (key ∷ [])) ≤ most_names
    by None few = omega arith
    by (Some ns) few = few ns refl

-- The entry has at most `most_names` names.
abbrev pub HasFewNames : EntryText → Type 0
HasFewNames entry = length entry.names ≤ most_names

pub entries_have_few_names : (is_nested : Bool) (index : ℕ) (keys : List SharedKeyText)
    → AllByRecursion HasFewNames (entries_from is_nested index keys)
entries_have_few_names is_nested index [] = tt
entries_have_few_names is_nested index (shared ∷ more) =
    (key_has_few_names is_nested shared.base, entries_have_few_names is_nested (index + 1) more)

field_is_shallow_at : (first : List ℕ) (more keys : List (List ℕ)) → length (field_at first more keys).parents ≡ length more
field_is_shallow_at first [] keys = refl
field_is_shallow_at first (second ∷ more) keys = let e = field_is_shallow_at second more keys in omega (arith, e)

field_is_shallow : (base : List ℕ) (names keys : List (List ℕ)) → length names ≤ most_names
    → length (field_of base names keys).parents ≤ most_names
field_is_shallow base [] keys few = omega arith
field_is_shallow base (first ∷ more) keys few = let e = field_is_shallow_at first more keys in omega (arith, e)

pub gathered_are_shallow : (entries : List EntryText) (keys : List (List ℕ)) → AllByRecursion HasFewNames entries
    → IsShallow (gathered keys entries)
gathered_are_shallow [] keys few = tt
gathered_are_shallow (entry ∷ more) keys few =
    by (continues entry.base more) (gathered_are_shallow more (keys ++ entry.key ∷ []) few.1)
    (field_is_shallow entry.base entry.names (keys ++ entry.key ∷ []) few.0) (gathered_are_shallow more [] few.1)
  where
    by : (b : Bool) → IsShallow (gathered (keys ++ entry.key ∷ []) more)
        → length (field_of entry.base entry.names (keys ++ entry.key ∷ [])).parents ≤ most_names → IsShallow (gathered [] more)
        → IsShallow (if b then gathered (keys ++ entry.key ∷ []) more
        else field_of entry.base entry.names (keys ++ entry.key ∷ []) ∷ gathered [] more)
    by true more_shallow shallow rest = more_shallow
    by false more_shallow shallow rest = (shallow, rest)

-- ---- the names in brackets

pub names_end : (left : ℕ) (text : List ℕ) (names : List (List ℕ)) → 0 < left → None ≡ first_name text
    → None ≡ option_map (λ more. names ++ more) (names_within left text)
unfolding names_within
names_end zero text names some is = absurd (omega arith)
names_end (suc n) text names some is = rw (← is) refl

pub names_last : (left : ℕ) (text : List ℕ) (names : List (List ℕ)) (name : List ℕ) → 0 < left → Some (name, []) ≡ first_name text
    → Some (names ++ name ∷ []) ≡ option_map (λ more. names ++ more) (names_within left text)
unfolding names_within
names_last zero text names name some is = absurd (omega arith)
names_last (suc n) text names name some is = rw (← is) refl

pub names_more : (left next : ℕ) (text : List ℕ) (names : List (List ℕ)) (name rest : List ℕ) → left ≡ suc next
    → (length rest ≡ 0 → ⊥) → Some (name, rest) ≡ first_name text
    → option_map (λ more. (names ++ name ∷ []) ++ more) (names_within next rest) ≡ option_map (λ more. names ++ more) (names_within left text)
unfolding names_within
names_more zero next text names name rest step some is = absurd (omega arith)
names_more (suc n) next text names name [] step some is = absurd (some refl)
names_more (suc n) next text names name (b ∷ rest) step some is =
    let same : n ≡ next = omega arith in rw (← is, ← same) (by (names_within n (b ∷ rest)))
  where
    by : (o : Option (List (List ℕ)))
        → option_map (λ more. (names ++ name ∷ []) ++ more) o ≡ option_map (λ more. names ++ more) (option_map (λ more. name ∷ more) o)
    by None = refl
    by (Some more) = ap Some (append_assoc names (name ∷ []) more)

pub no_names_left : (text : List ℕ) (names : List (List ℕ)) → None ≡ option_map (λ more. names ++ more) (names_within zero text)
unfolding names_within
no_names_left text names = refl

-- ---- names that two lists share

none_shared : (names : List (List ℕ)) → shared_len names [] ≡ 0
none_shared [] = refl
none_shared (name ∷ names) = refl

pub shared_end : {A : Type 0} (f : A → List ℕ) (names others : List A) (i : ℕ) → length others ≤ i
    → shared_len (map f (drop i names)) (map f (drop i others)) ≡ 0
shared_end f names others i past =
    ap (λ rest. shared_len (map f (drop i names)) (map f rest)) (drop_all i others past) ∙ none_shared (map f (drop i names))

shared_all : {A : Type 0} (f : A → List ℕ) (names others : List A) (i : ℕ) → length names ≤ i
    → shared_len (map f (drop i names)) (map f (drop i others)) ≡ 0
shared_all f names others i past = ap (λ rest. shared_len (map f rest) (map f (drop i others))) (drop_all i names past)

shared_step : {A : Type 0} (f : A → List ℕ) (names others : List A) (i : ℕ) (d e : A) → i < length names → i < length others
    → shared_len (map f (drop i names)) (map f (drop i others))
    ≡ (if bytes_eq (f (get_or names i d)) (f (get_or others i e)) then suc (shared_len (map f (drop (i + 1) names)) (map f (drop (i + 1) others))) else 0)
shared_step f names others i d e inside inside_others =
    ap (λ rest. shared_len (map f rest) (map f (drop i others))) (drop_more names i d inside)
    ∙ ap (λ rest. shared_len (map f (get_or names i d ∷ drop (i + 1) names)) (map f rest)) (drop_more others i e inside_others)

pub shared_other : {A : Type 0} (f : A → List ℕ) (names others : List A) (i : ℕ) (d e : A) → i < length names → i < length others
    → bytes_eq (f (get_or names i d)) (f (get_or others i e)) ≡ false
    → shared_len (map f (drop i names)) (map f (drop i others)) ≡ 0
shared_other f names others i d e inside inside_others differ = rw (shared_step f names others i d e inside inside_others, differ) refl

pub shared_same : {A : Type 0} (f : A → List ℕ) (names others : List A) (i : ℕ) (d e : A) → i < length names → i < length others
    → bytes_eq (f (get_or names i d)) (f (get_or others i e)) ≡ true
    → shared_len (map f (drop i names)) (map f (drop i others)) ≡ suc (shared_len (map f (drop (i + 1) names)) (map f (drop (i + 1) others)))
shared_same f names others i d e inside inside_others same = rw (shared_step f names others i d e inside inside_others, same) refl

-- The first names come in byte order, if there are any.
abbrev pub first_before : List (List ℕ) → List (List ℕ) → Bool
first_before [] others = false
first_before (name ∷ names) [] = false
first_before (name ∷ names) (other ∷ others) = is_lt (slice_cmp nat_cmp name other)

before_by : (b : Bool) (name other : List ℕ) (names others : List (List ℕ)) (n : ℕ)
    → comes_before names others ≡ first_before (drop n names) (drop n others)
    → (if b then comes_before names others else is_lt (slice_cmp nat_cmp name other))
    ≡ first_before (drop (if b then suc n else 0) (name ∷ names)) (drop (if b then suc n else 0) (other ∷ others))
before_by true name other names others n same = same
before_by false name other names others n same = refl

pub comes_before_by_first : (names others : List (List ℕ))
    → comes_before names others ≡ first_before (drop (shared_len names others) names) (drop (shared_len names others) others)
comes_before_by_first [] others = refl
comes_before_by_first (name ∷ names) [] = refl
comes_before_by_first (name ∷ names) (other ∷ others) =
    before_by (bytes_eq name other) name other names others (shared_len names others) (comes_before_by_first names others)

-- ---- the first name of a text

pub no_first_name : (text : List ℕ) → BeginsOtherwise 91 text → None ≡ first_name text
no_first_name [] other = refl
no_first_name (b ∷ text) other = rw (other_byte 91 b text other) refl

any_from_place : (b : Bool) (p : ℕ → Bool) (x : ℕ) (xs : List ℕ) → p x ≡ b
    → (position_or_len p xs ≡ length xs → list_any p xs ≡ false)
    → position_or_len p (x ∷ xs) ≡ length (x ∷ xs) → list_any p (x ∷ xs) ≡ false
any_from_place true p x xs is more none = absurd (omega (arith, rw is at none))
any_from_place false p x xs is more none = let rest : position_or_len p xs ≡ length xs = omega (arith, rw is at none) in rw is (more rest)

pub none_at_end : (p : ℕ → Bool) (xs : List ℕ) → position_or_len p xs ≡ length xs → list_any p xs ≡ false
none_at_end p [] none = refl
none_at_end p (x ∷ xs) none = any_from_place (p x) p x xs refl (none_at_end p xs) none

some_from_place : (b : Bool) (p : ℕ → Bool) (x : ℕ) (xs : List ℕ) → p x ≡ b
    → (position_or_len p xs < length xs → list_any p xs ≡ true)
    → position_or_len p (x ∷ xs) < length (x ∷ xs) → list_any p (x ∷ xs) ≡ true
some_from_place true p x xs is more some = rw is refl
some_from_place false p x xs is more some = let rest : position_or_len p xs < length xs = omega (arith, rw is at some) in rw is (more rest)

pub some_before_end : (p : ℕ → Bool) (xs : List ℕ) → position_or_len p xs < length xs → list_any p xs ≡ true
some_before_end p [] some = absurd (omega arith)
some_before_end p (x ∷ xs) some = some_from_place (p x) p x xs refl (some_before_end p xs) some

pub no_closed_name : (text inside : List ℕ) → text ≡ 91 ∷ inside → position_or_len (λ b. b == 93) inside ≡ length inside
    → None ≡ first_name text
no_closed_name text inside is none = rw (is, none_at_end (λ b. b == 93) inside none) refl

pub one_first_name : (text inside name rest : List ℕ) → text ≡ 91 ∷ inside → position_or_len (λ b. b == 93) inside < length inside
    → name ≡ before_first (λ b. b == 93) inside → rest ≡ after_first (λ b. b == 93) inside
    → first_name text ≡ name_and_rest name rest
one_first_name text inside name rest is some name_is rest_is =
    rw (is, some_before_end (λ b. b == 93) inside some, name_is, rest_is) refl

-- ---- which of two lists of names comes first

first_at : {A : Type 0} (f : A → List ℕ) (names others : List A) (n : ℕ) → n ≡ shared_len (map f names) (map f others)
    → comes_before (map f names) (map f others) ≡ first_before (map f (drop n names)) (map f (drop n others))
first_at f names others n is =
    comes_before_by_first (map f names) (map f others)
    ∙ ap (λ k. first_before (drop k (map f names)) (drop k (map f others))) (sym is)
    ∙ ap (λ xs. first_before xs (drop n (map f others))) (drop-map f n names)
    ∙ ap (λ xs. first_before (map f (drop n names)) xs) (drop-map f n others)

pub both_first : {A : Type 0} (f : A → List ℕ) (names others : List A) (n : ℕ) (x y : A) → n ≡ shared_len (map f names) (map f others)
    → n < length names → n < length others → x ≡ get_or names n x → y ≡ get_or others n y
    → comes_before (map f names) (map f others) ≡ is_lt (slice_cmp nat_cmp (f x) (f y))
both_first f names others n x y is inside inside_others x_is y_is =
    first_at f names others n is
    ∙ ap (λ xs. first_before (map f xs) (map f (drop n others))) (drop_more names n x inside)
    ∙ ap (λ xs. first_before (map f (get_or names n x ∷ drop (n + 1) names)) (map f xs)) (drop_more others n y inside_others)
    ∙ ap (λ z. is_lt (slice_cmp nat_cmp (f z) (f (get_or others n y)))) (sym x_is)
    ∙ ap (λ z. is_lt (slice_cmp nat_cmp (f x) (f z))) (sym y_is)

none_before : (names : List (List ℕ)) → first_before names [] ≡ false
none_before [] = refl
none_before (name ∷ names) = refl

pub no_first : {A : Type 0} (f : A → List ℕ) (names others : List A) (n : ℕ) → n ≡ shared_len (map f names) (map f others)
    → length names ≤ n → comes_before (map f names) (map f others) ≡ false
no_first f names others n is past =
    first_at f names others n is ∙ ap (λ xs. first_before (map f xs) (map f (drop n others))) (drop_all n names past)

pub no_other_first : {A : Type 0} (f : A → List ℕ) (names others : List A) (n : ℕ) → n ≡ shared_len (map f names) (map f others)
    → length others ≤ n → comes_before (map f names) (map f others) ≡ false
no_other_first f names others n is past =
    first_at f names others n is ∙ ap (λ xs. first_before (map f (drop n names)) (map f xs)) (drop_all n others past)
    ∙ none_before (map f (drop n names))

-- ---- the member of an entry, by its last name

pub field_by_last_name : {A : Type 0} (f : A → List ℕ) (base : A) (names parents : List A) (last : A) (keys : List (List ℕ))
    → names ≡ parents ++ last ∷ []
    → record { parents = map f parents; name = f last; keys = keys } ≡ field_of (f base) (map f names) keys
field_by_last_name f base names [] last keys are = rw are refl
field_by_last_name f base names (first ∷ parents) last keys are =
    rw are (sym (ap (λ more. field_at (f first) more keys) (map-append f parents (last ∷ []))
    ∙ field_at_end (f first) (map f parents) (f last) keys))

-- ---- what holds of each entry also holds after they are sorted

to_all : {A : Type 0} (P : A → Type 0) (xs : List A) → AllByRecursion P xs → All P xs
to_all P [] h k d inside = absurd (omega arith)
to_all P (x ∷ xs) h zero d inside = h.0
to_all P (x ∷ xs) h (suc k) d inside = to_all P xs h.1 k d (omega arith)

from_all : {A : Type 0} (P : A → Type 0) (xs : List A) → All P xs → AllByRecursion P xs
from_all P [] h = tt
from_all P (x ∷ xs) h = (h 0 x (omega arith), from_all P xs (λ k d inside. h (suc k) d (omega arith)))

few_after : (entries sorted : List EntryText) → IsPermutation entries sorted
    → AllByRecursion HasFewNames entries → AllByRecursion HasFewNames sorted
few_after entries sorted moved few =
    from_all HasFewNames sorted (All-permutation HasFewNames entries sorted moved (to_all HasFewNames entries few))

-- The plan of sorted entries is one for their keys.
pub plan_is_made : (is_nested : Bool) (shared : List SharedKeyText) (entries sorted : List EntryText) (fields : List FieldText)
    → entries ≡ entries_from is_nested 0 shared → IsPermutation entries sorted → AreInOrder sorted → fields ≡ gathered [] sorted
    → IsPlan is_nested shared fields
plan_is_made is_nested shared entries sorted fields are moved order is =
    (sorted, subst (λ (es : List EntryText). IsPermutation es sorted) are moved, order, is)

pub plan_is_shallow : (is_nested : Bool) (shared : List SharedKeyText) (entries sorted : List EntryText) (fields : List FieldText)
    → entries ≡ entries_from is_nested 0 shared → IsPermutation entries sorted → fields ≡ gathered [] sorted
    → IsShallow fields
plan_is_shallow is_nested shared entries sorted fields are moved is =
    let few : AllByRecursion HasFewNames entries = subst (λ (es : List EntryText). AllByRecursion HasFewNames es) (sym are) (entries_have_few_names is_nested 0 shared) in
    subst (λ (fs : List FieldText). IsShallow fs) (sym is) (gathered_are_shallow sorted [] (few_after entries sorted moved few))
