-- Lists of keys that grow at their end.
use Rattle.std.specs.Prelude.{◌≡◌, ℕ, List, ◌++◌}
use Rattle.std.specs.Borrow.{Bor}

-- The second list begins with the first one.
abbrev pub HasMore : List (Bor (List ℕ)) → List (Bor (List ℕ)) → Type 0
HasMore keys longer = (more : List (Bor (List ℕ))) × (longer ≡ keys ++ more)
