-- Whether a list of pairs has a definition of a name.
use Rattle.std.specs.Prelude.{◌≢◌, ℕ, List, [], ◌∷◌}

-- no pair of a name and its definition has this name
abbrev pub NoneNames : List (List ℕ × List ℕ) → List ℕ → Type 0
NoneNames [] name = Unit {0}
NoneNames (pair ∷ pairs) name = (name ≢ pair.0) × NoneNames pairs name
