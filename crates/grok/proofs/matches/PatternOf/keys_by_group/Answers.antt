use Rattle.std.proofs.Common.{◌≡◌, ℕ, ◌≤◌, false, List, map, subst, Bor, Ordering, arith}
use Rattle.std.specs.List.Sorted.{IsPermutation}
use Rattle.std.specs.Ordering.{nat_cmp, ordering_then, is_lt}
use Rattle.std.proofs.lemmas.Bool.Decides.{nat_tests}
use Rattle.std.proofs.lemmas.List.Sorted.{IsNonDecreasingBy-from_all_adjacent, IsPermutation-map}
use Rattle.grok.specs.KeyTable.{entry_of_group}
use Rattle.grok.proofs.matches.PatternOf.keys_by_group.Goals as goal

first_le : (a b : ℕ) (o : Ordering) → is_lt (ordering_then (nat_cmp b a) o) ≡ false → a ≤ b
first_le a b o h = grind (arith, nat_tests)

pub returns-clause-sorted : goal.returns-clause-sorted
returns-clause-sorted g c =
    IsNonDecreasingBy-from_all_adjacent (λ (pair : ℕ × Bor (List ℕ)). pair.0) c.sort.new.self.items
    (λ k d low. first_le _ _ _ (c.in_ok-sort.ensures.sorted k d (omega arith) low))

pub returns-clause-all : goal.returns-clause-all
returns-clause-all g c =
    subst (λ entries. IsPermutation entries (map entry_of_group c.sort.new.self.items)) c.in_ok-keys.ensures
    (IsPermutation-map entry_of_group _ _ c.sort.ensures.permutation)
