-- The numbers of keys.
use Rattle.std.specs.Prelude.{◌≡◌, ℕ, Bool, true, List, map, filter, Option, Some, None, slice_get}
use Rattle.std.specs.Borrow.{Bor}
use Rattle.std.specs.List.{list_any}
use Rattle.std.specs.List.Sorted.{IsPermutation, IsNonDecreasingBy}
use Rattle.std.specs.Str.{bytes_eq}
use Rattle.grok.specs.KeyTable.{entry_of_group}
use Rattle.groklog_answers.specs.PlanViews.{names_of}
use Rattle.groklog_answers.specs.declared.searches.NamedPattern.{NamedPattern}

-- Whether a key counts: those that are named do, or all if none are.
abbrev pub counts : Option (Bor (List (Bor (List ℕ)))) → List ℕ → Bool
counts None key = true
counts (Some named) key = list_any (λ name. bytes_eq name.now key) named.now

-- These numbers are the places among `keys` of those of these keys that count, in their order. Each key stands beside its group.
abbrev pub AreNumbers : (List ℕ → Bool) → List (List ℕ) → List (ℕ × Bor (List ℕ)) → List ℕ → Type 0
AreNumbers counts keys pairs numbers = map (slice_get keys) numbers ≡ map Some (filter counts (map (λ pair. pair.1.now) pairs))

-- THE NUMBERS OF A PATTERN are those of its keys that count, in the order of their groups.
pub record AreNumbersOf (counts : List ℕ → Bool) (keys : List (List ℕ)) (named : NamedPattern) (numbers : List ℕ) : Type 0 where
  pub by_group : List (ℕ × Bor (List ℕ))
  pub all : IsPermutation named.pattern.now.keys (map entry_of_group by_group)
  pub in_order : IsNonDecreasingBy (λ pair. pair.0) by_group
  pub numbered : AreNumbers counts keys by_group numbers
