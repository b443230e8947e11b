-- The test `is_json_number` is true only for JSON numbers, and each value that is written as a number is one.
use Rattle.std.proofs.Common.{◌≡◌, ℕ, Bool, true, false, ◌&&◌, ◌||◌, not, List, [], ◌∷◌, Option, Some, None, codes, refl}
use Rattle.std.specs.List.{list_any}
use Rattle.std.specs.Str.{bytes_eq}
use Rattle.json.specs.Word.{after_number}
use Rattle.json.specs.Print.{IsNumber}
use Rattle.groklog_answers.specs.Values.{is_all, is_json_number, is_json_integer, begins_fraction_or_exponent, is_written_as_number}

decided : (b : Bool) (after : Option (List ℕ)) → (b ≡ true → after ≡ Some []) → (after ≡ Some [] → b ≡ true) → b ≡ is_all after
decided true None h k = let e = h refl in cc
decided true (Some []) h k = refl
decided true (Some (x ∷ xs)) h k = let e = h refl in cc
decided false None h k = refl
decided false (Some []) h k = k refl
decided false (Some (x ∷ xs)) h k = refl

pub number_is_decided : (b : Bool) (text : List ℕ) → (b ≡ true → IsNumber text) → (IsNumber text → b ≡ true) → b ≡ is_json_number text
number_is_decided b text h k = decided b (after_number text) h k

all_is : (after : Option (List ℕ)) → is_all after ≡ true → after ≡ Some []
all_is None h = cc
all_is (Some []) h = refl
all_is (Some (x ∷ xs)) h = cc

pub is_number : (text : List ℕ) → is_json_number text ≡ true → IsNumber text
is_number text h = all_is (after_number text) h

one_of : (a b c d : Bool) → ((a && b) || (c && d)) ≡ true → (b ≡ true → d ≡ true) → d ≡ true
one_of true true c d h k = k refl
one_of true false true d h k = h
one_of true false false d h k = cc
one_of false b true d h k = h
one_of false b false d h k = cc

left : (a b : Bool) → (a && b) ≡ true → a ≡ true
left true b h = refl
left false b h = cc

-- A value that is written as a number is a JSON number.
pub written_is_number : (extract : Option (List ℕ)) (value : List ℕ) → is_written_as_number extract value ≡ true → IsNumber value
written_is_number None value h = cc
written_is_number (Some extract) value h =
    is_number value (one_of (bytes_eq extract (codes "int")) (is_json_integer value) (bytes_eq extract (codes "float")) (is_json_number value) h
    (λ integer. left (is_json_number value) (not (list_any begins_fraction_or_exponent value)) integer))
