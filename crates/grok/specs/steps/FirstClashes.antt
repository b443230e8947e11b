-- What the search for the first clash finds.
use Rattle.std.specs.Prelude.{◌≡◌, ℕ, ◌-◌, ◌<◌, ◌^◌, Bool, true, false, List, ◌∷◌, ◌++◌, Option, MatchOption}
use Rattle.grok.specs.Keys.{numbered}
use Rattle.grok.specs.steps.KeyUses.{IsFree}
use Rattle.grok.specs.steps.Rows.{uses_in}
use Rattle.grok.specs.declared.expand.clash_search.FoundClash.{FoundClash}

-- One of two placeholders has the base key `base` and gets its key from its number: it is use `number` of `base`,
-- counted from 0. The other one has that key as its alias. The later one of the two has the base key `key`, and
-- comes after the base keys `before`. If the flag is `true`, the one with the alias comes first.
abbrev pub ClashesAfter : List (List ℕ) → List ℕ → List ℕ → ℕ → Bool → Type 0
ClashesAfter before key base number true =
    (key ≡ base) × (uses_in before key ≡ number) × (0 < uses_in before (numbered base number))
ClashesAfter before key base number false =
    (key ≡ numbered base number) × (uses_in before key ≡ 0) × (number < uses_in before base)

-- Two of the placeholders with these base keys get the same key, and no two before the later one of them do.
pub record IsFirstClashIn (keys : List (List ℕ)) (found : FoundClash) : Type 0 where
  pub before : List (List ℕ)
  pub key : List ℕ
  pub rest : List (List ℕ)
  pub cut : keys ≡ before ++ key ∷ rest
  pub free : IsFree (uses_in before)
  pub some : 0 < found.number
  pub fits : found.number < 2 ^ 64 - 1
  pub clashes : ClashesAfter before key found.base.now found.number found.is_alias_first

-- what the search returns: the first clash among the base keys, or `None` if no two placeholders get the same key
abbrev pub FindsClash : List (List ℕ) → Option FoundClash → Type 0
FindsClash keys found = MatchOption found (IsFree (uses_in keys)) (λ clash. IsFirstClashIn keys clash)
