-- Whether a key is among some names.
use Rattle.std.proofs.Common.{◌≡◌, Bool, ◌||◌, List, [], ◌∷◌, map, refl, ap}
use Rattle.std.specs.List.{list_any}

-- A name of the list passes a test if one of the texts passes it that have these names.
pub any_of_names : {A B : Type 0} (p : B → Bool) (f : A → B) (xs : List A) → list_any p (map f xs) ≡ list_any (λ x. p (f x)) xs
any_of_names p f [] = refl
any_of_names p f (x ∷ xs) = ap (λ b. p (f x) || b) (any_of_names p f xs)
