-- What the search for the first clash counts of one base key, and where it stops.
use Rattle.std.specs.Prelude.{◌≡◌, ◌↔◌, ℕ, suc, ◌+◌, ◌-◌, ◌<◌, ◌≤◌, ◌^◌, min, Bool, true, List, ◌∷◌, [], ◌++◌, take, get_or, Option, Some, None, MatchOption, is_some}
use Rattle.std.specs.BTreeMap.{BTreeMap, get_by}
use Rattle.std.specs.Borrow.{Bor}
use Rattle.std.specs.Cmp.Lexicographic.{slice_cmp}
use Rattle.std.specs.Ordering.{nat_cmp}
use Rattle.grok.specs.Keys.{numbered}
use Rattle.grok.specs.steps.KeyUses.{MayBeUsed}
use Rattle.grok.specs.steps.Rows.{uses_in, flat}
use Rattle.grok.specs.steps.FirstClashes.{ClashesAfter}
use Rattle.grok.specs.declared.expand.rows.Row.{Row}
use Rattle.grok.specs.declared.expand.uses.Uses.{Uses}
use Rattle.grok.specs.declared.expand.clash_search.FoundClash.{FoundClash}

-- ---- counts

-- what is counted of no base keys
abbrev pub no_uses : Uses
no_uses = record { times = 0; least = None }

-- none of these base keys is `base[n]`, with a number n from 1 up
abbrev pub HasNoNumber : List ℕ → List (List ℕ) → Type 0
HasNoNumber base keys = (count : ℕ) → uses_in keys (numbered base (suc count)) ≡ 0

-- `least` is the least number n from 1 up for which one of these base keys is `base[n]`, but at most the greatest `usize`.
-- So `base` may be used `least` times without a clash.
pub record IsLeastNumber (base : List ℕ) (keys : List (List ℕ)) (least : ℕ) : Type 0 where
  pub some : HasNoNumber base keys → ⊥
  pub fits : least < 2 ^ 64
  pub bound : (times : ℕ) → times < 2 ^ 64 → (times ≤ least) ↔ MayBeUsed (uses_in keys) base times

-- the least number, or `None` if none of these base keys is `base[n]`
abbrev pub HasLeast : List ℕ → List (List ℕ) → Option ℕ → Type 0
HasLeast base keys least = MatchOption least (HasNoNumber base keys) (λ number. IsLeastNumber base keys number)

-- `uses` counts these base keys: how many of them are `base`, but at most the greatest `u128`, and the least number n for
-- which one of them is `base[n]`
pub record AreUsesOf (base : List ℕ) (keys : List (List ℕ)) (uses : Uses) : Type 0 where
  pub times : uses.times ≡ min (uses_in keys base) (2 ^ 128 - 1)
  pub least : HasLeast base keys uses.least

-- the lesser one of two numbers, or the only one
abbrev pub lesser : Option ℕ → Option ℕ → Option ℕ
lesser None other = other
lesser (Some number) None = Some number
lesser (Some number) (Some other) = Some (min number other)

-- If a base key is used `times` times, none of the keys that it gets is a base key that is used. If `least` is the greatest
-- `usize`, it isn't known whether that is also true of a base key that is used more often.
abbrev pub IsFreeAt : ℕ → Option ℕ → Type 0
IsFreeAt times least = MatchOption least (Unit {0}) (λ number. times ≤ number)

-- `counts` counts the uses in each part, whose base keys are in `done`
abbrev pub AreCountsOf : List ℕ → List (List (List ℕ)) → List Uses → Type 0
AreCountsOf base done counts = (index : ℕ) → AreUsesOf base (get_or done index []) (get_or counts index no_uses)

-- ---- the search for one base key

-- these base keys use `base` too often, or it isn't known whether they do
pub record IsOverused (base : List ℕ) (keys : List (List ℕ)) : Type 0 where
  pub uses : Uses
  pub are_uses : AreUsesOf base keys uses
  pub over : IsFreeAt uses.times uses.least → ⊥

-- The search passed the rows before the one with this index, and `so_far` counts them too. With the row itself, `base`
-- is used too often.
pub record StopsAt (done : List (List (List ℕ))) (base : List ℕ) (before : List (List ℕ)) (rows : List Row)
    (so_far : Uses) (index : ℕ) : Type 0 where
  pub passed : AreUsesOf base (before ++ flat done (take index rows)) so_far
  pub over : IsOverused base (before ++ flat done (take (index + 1) rows))

-- what the search of rows returns, which come after the base keys `before`: where it stopped, or `None` if it passed all
abbrev pub PassesRows : List (List (List ℕ)) → List ℕ → List (List ℕ) → List Row → Uses → Option ℕ → Type 0
PassesRows done base before rows so_far stop = MatchOption stop (AreUsesOf base (before ++ flat done rows) so_far)
    (λ index. StopsAt done base before rows so_far index)

-- The base keys `old` were cut before one of them, which clashes with one of those that are left, `new`. If the number
-- is the greatest `usize`, it isn't known whether they clash.
pub record IsCutAt (old new : List (List ℕ)) (found : FoundClash) : Type 0 where
  pub key : List ℕ
  pub rest : List (List ℕ)
  pub cut : old ≡ new ++ key ∷ rest
  pub fits : found.number < 2 ^ 64
  pub clashes : found.number < 2 ^ 64 - 1
      → (0 < found.number) × ClashesAfter new key found.base.now found.number found.is_alias_first

-- the base keys `old` were cut at a clash, or they stay as they were
abbrev pub IsCutOrSame : List (List ℕ) → List (List ℕ) → Option FoundClash → Type 0
IsCutOrSame old new found = MatchOption found (new ≡ old) (λ clash. IsCutAt old new clash)

-- ---- which base keys the search is for

-- whether the map has this base key
abbrev pub has_base : {V : Type 0} → BTreeMap (Bor (List ℕ)) V → List ℕ → Bool
has_base bases base = is_some (get_by (λ (key : Bor (List ℕ)). slice_cmp nat_cmp base key.now) bases)

-- if one of these base keys is `x[n]`, with a number n from 1 up, the map has `x`
abbrev pub HasBasesOf : {V : Type 0} → List (List ℕ) → BTreeMap (Bor (List ℕ)) V → Type 0
HasBasesOf keys bases = (base : List ℕ) (count : ℕ) → 0 < uses_in keys (numbered base (suc count))
    → has_base bases base ≡ true
