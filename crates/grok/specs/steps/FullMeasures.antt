-- All that measuring a pattern finds out, as compiling and diagnosing need it.
use Rattle.std.specs.Prelude.{◌≡◌, List, ℕ, ◌-◌, ◌^◌}
use Rattle.std.specs.Borrow.{Bor}
use Rattle.grok.specs.Tree.{reached}
use Rattle.grok.specs.Keys.{has_numbered_alias}
use Rattle.grok.specs.Measured.{tree_of}
use Rattle.grok.specs.CountedMeasures.{IsCountedMeasure}
use Rattle.grok.specs.steps.MeasureCache.{HasCorrectCache}
use Rattle.grok.specs.declared.measure.full_measure.FullMeasure.{FullMeasure}
use Rattle.grok.specs.declared.measure.cache.Progress.{Progress}
use Rattle.grok.specs.declared.measure.cache.Progress.TheVariants.{InProgress, HasSize, HasFault, NeedsMoreThan}
use Rattle.grok.specs.declared.settings.Settings.{Settings}

-- `found` has the result of measuring the pattern with these settings, what was read for it, and whether an alias is
-- reached that ends in a number in brackets. What its measurer remembers is right.
pub record IsFullMeasure (settings : Settings) (pattern : List ℕ) (found : FullMeasure) : Type 0 where
  pub settings_same : found.measurer.settings ≡ settings
  pub correct : HasCorrectCache found.measurer
  pub counted : IsCountedMeasure settings.grok.now settings.with_alias_only pattern found.measure found.measurer.cache.looks
  pub numbered : found.measurer.cache.has_numbered ≡ has_numbered_alias (reached (tree_of settings.grok.now pattern))

-- how many levels a definition with this progress needs, or the greatest `usize` if that isn't known
abbrev pub levels_of : Progress → ℕ
levels_of (HasSize sum) = sum.height
levels_of InProgress = 2 ^ 64 - 1
levels_of (HasFault failure) = 2 ^ 64 - 1
levels_of (NeedsMoreThan levels) = 2 ^ 64 - 1

-- how many levels the definition of a name needs, and the name
abbrev pub levels_and_name : Bor (List ℕ) × Progress → ℕ × Bor (List ℕ)
levels_and_name entry = (levels_of entry.1, entry.0)
