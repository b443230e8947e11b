-- A text begins with `%{` exactly if its first two bytes are these.
use Rattle.std.proofs.Common.{◌≡◌, ℕ, Bool, true, false, List, [], ◌∷◌, drop, refl, arith}
use Rattle.std.proofs.lemmas.Bool.Decides.{nat_tests}
use Rattle.grok_parser.specs.Pieces.{is_open}

pub is_open_of : (text rest : List ℕ) → text ≡ 37 ∷ 123 ∷ rest → is_open text ≡ true
is_open_of text rest e = rw e refl

pub is_open_split : (text : List ℕ) → is_open text ≡ true → text ≡ 37 ∷ 123 ∷ drop 2 text
is_open_split [] e = cc
is_open_split (a ∷ []) e = grind (arith, nat_tests)
is_open_split (a ∷ b ∷ rest) e = grind (arith, nat_tests)

pub not_open : (text : List ℕ) → ((rest : List ℕ) → text ≡ 37 ∷ 123 ∷ rest → ⊥) → is_open text ≡ false
not_open text h = by_cases (is_open text) (λ e. h _ (is_open_split text e))
  where
    by_cases : (b : Bool) → (b ≡ true → ⊥) → b ≡ false
    by_cases true n = absurd (n refl)
    by_cases false n = refl

pub ruleset opens = (is_open_of, not_open)
