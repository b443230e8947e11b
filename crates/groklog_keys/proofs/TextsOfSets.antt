-- The texts of the keys of a set after one more was inserted.
use Rattle.std.proofs.Common.{◌≡◌, ℕ, List, [], ◌∷◌, map, Bor, refl, ap}
use Rattle.std.specs.BTreeSet.{insert_key}
use Rattle.std.specs.Cmp.Lexicographic.{slice_cmp}
use Rattle.std.specs.Ordering.{nat_cmp, match_ordering}
use Rattle.std.specs.declared.cmp.Ordering.TheVariants.{Less, Equal, Greater}

pub one_more_key : (keys : List (Bor (List ℕ))) (key : Bor (List ℕ)) →
    map (λ k. k.now) (insert_key (λ a b. slice_cmp nat_cmp a.now b.now) keys key) ≡ insert_key (slice_cmp nat_cmp) (map (λ k. k.now) keys) key.now
one_more_key [] key = refl
one_more_key (k ∷ ks) key =
    elim (slice_cmp nat_cmp key.now k.now) as (λ o. map (λ k. k.now) (match_ordering o (key ∷ k ∷ ks) (k ∷ ks) (k ∷ insert_key (λ a b. slice_cmp nat_cmp a.now b.now) ks key)) ≡ match_ordering o (key.now ∷ map (λ k. k.now) (k ∷ ks)) (map (λ k. k.now) (k ∷ ks)) (k.now ∷ insert_key (slice_cmp nat_cmp) (map (λ k. k.now) ks) key.now)) [
      | Less ↦ refl
      | Equal ↦ refl
      | Greater ↦ ap (λ texts. k.now ∷ texts) (one_more_key ks key)
    ]
