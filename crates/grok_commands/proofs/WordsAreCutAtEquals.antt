-- Each word that has a `=` is cut at its first one.
use Rattle.std.proofs.Common.{◌≡◌, ℕ, ◌+◌, ◌<◌, Bool, true, false, List, [], ◌∷◌, length, arith, Option, Some, None, IsSome, MatchOption, Bor, refl, lit<, ◌||◌, rules}
use Rattle.std.specs.List.{list_any, position_or_len}
use Rattle.std.proofs.lemmas.Str.Pattern.{split_once_first, IsSplitOnceResult}
use Rattle.grok_commands.specs.Commands.{is_equals, has_equals}

before-step : (t : Bool) (b : ℕ) (bs : List ℕ) → is_equals b ≡ t → (has_equals bs ≡ true → position_or_len is_equals bs < length bs) → has_equals (b ∷ bs) ≡ true
    → position_or_len is_equals (b ∷ bs) < length (b ∷ bs)
before-step true b bs e h k = rw e (omega arith)
before-step false b bs e h k = let there : has_equals bs ≡ true = rw e at k in let below = h there in rw e (omega arith)

equals_before_end : (word : List ℕ) → has_equals word ≡ true → position_or_len is_equals word < length word
equals_before_end [] h = cc
equals_before_end (b ∷ bs) h = before-step (is_equals b) b bs refl (equals_before_end bs) h

some-step : (r : Option (Bor (List ℕ) × Bor (List ℕ))) (n m : ℕ) (P : Bor (List ℕ) × Bor (List ℕ) → Type 0) → MatchOption r (n ≡ m) P → n < m → IsSome r
some-step None n m P h k = absurd (omega arith)
some-step (Some x) n m P h k = search rules

-- a word that has a `=` is cut
pub is_cut : (word : List ℕ) (r : Option (Bor (List ℕ) × Bor (List ℕ))) → IsSplitOnceResult 61 word r → has_equals word ≡ true → IsSome r
is_cut word r h e = some-step r (position_or_len is_equals word) (length word) _ (split_once_first 61 word r h (lit< tt)) (equals_before_end word e)
