-- The values of keys, key by key.
use Rattle.std.proofs.Common.{◌≡◌, List, [], ◌∷◌, ◌++◌, Option, Some, None, option_map, refl, ap, append_assoc, ℕ}
use Rattle.groklog_answers.specs.ValueLists.{values_by}

-- One more key has a value.
joined : (before : List (List ℕ × List ℕ)) (pair : List ℕ × List ℕ) (rest : Option (List (List ℕ × List ℕ)))
    → option_map (λ r. (before ++ pair ∷ []) ++ r) rest ≡ option_map (λ r. before ++ r) (option_map (λ r. pair ∷ r) rest)
joined before pair None = refl
joined before pair (Some r) = ap Some (append_assoc before (pair ∷ []) r)

pub one_more_value : (value : List ℕ → Option (List ℕ)) (before : List (List ℕ × List ℕ)) (key text : List ℕ) (more : List (List ℕ))
    → value key ≡ Some text
    → option_map (λ r. (before ++ (key, text) ∷ []) ++ r) (values_by value more) ≡ option_map (λ r. before ++ r) (values_by value (key ∷ more))
one_more_value value before key text more is = rw is (joined before (key, text) (values_by value more))

-- A key has none.
pub no_value_of_key : (value : List ℕ → Option (List ℕ)) (before : List (List ℕ × List ℕ)) (key : List ℕ) (more : List (List ℕ))
    → value key ≡ None
    → option_map (λ r. before ++ r) (values_by value (key ∷ more)) ≡ None
no_value_of_key value before key more is = rw is refl
