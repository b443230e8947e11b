-- How often base keys are used, and when two keys clash.
use Rattle.std.specs.Prelude.{ℕ, suc, ◌<◌, ◌≤◌, List}
use Rattle.grok.specs.Keys.{numbered}

-- The base key `key` (the key before its number is added) may be used `times` times: none of the numbered keys that
-- it gives then is the base key of a placeholder. If `x[1]` is used, `x` may be used once: its second use would get
-- the key `x[1]`.
abbrev pub MayBeUsed : (List ℕ → ℕ) → List ℕ → ℕ → Type 0
MayBeUsed uses key times = (count : ℕ) → 0 < uses (numbered key (suc count)) → times ≤ suc count

-- no base key is used more often than it may be used, so no two keys clash
abbrev pub IsFree : (List ℕ → ℕ) → Type 0
IsFree uses = (key : List ℕ) → MayBeUsed uses key (uses key)
