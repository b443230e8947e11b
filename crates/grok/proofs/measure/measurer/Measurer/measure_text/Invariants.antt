use Rattle.std.proofs.Common.{◌≡◌, ◌-◌, ◌≤◌, length}
use Rattle.std.specs.FinMap as finite
use Rattle.grok.specs.steps.MeasuredOnce.{State, items_within}
use Rattle.grok.specs.steps.MeasureCache.{ShowsState, items_in}
use Rattle.grok.proofs.Sizes.TextsWithoutPlaceholders.{AreSound}
use Rattle.grok.proofs.Sizes.MeasureLoopIsReading.{ContinuesReading}
use Rattle.grok.proofs.Sizes.MeasureLoopEnds.{AreFit, work_left}
use Rattle.grok.proofs.measure.measurer.Measurer.measure_text.Given as goal

abbrev pub invariant-items : goal.invariant-items
invariant-items l = record {
  settings : l.self.settings ≡ l.fn.self.settings;
  goes_on : (st : State) → ShowsState l.fn.self.cache st
      → ContinuesReading l.fn.self.settings.with_alias_only (items_in l.fn.self.settings.grok.now) l.levels (items_within l.fn.self.settings.with_alias_only (items_in l.fn.self.settings.grok.now) l.levels (items_in l.fn.self.settings.grok.now l.text) st) l.frames.items l.items l.sum l.self.cache;
  fit : AreFit (items_in l.fn.self.settings.grok.now) (finite.get l.fn.self.settings.grok.now) l.levels l.frames.items;
  low : l.sum.height ≤ l.levels - length l.frames.items;
  sound : AreSound (items_in l.fn.self.settings.grok.now) (finite.get l.fn.self.settings.grok.now) l.items;
  few : length l.frames.items ≤ l.levels;
}

abbrev pub decreases-items : goal.decreases-items
decreases-items l = work_left (items_in l.fn.self.settings.grok.now) (finite.get l.fn.self.settings.grok.now) (finite.entries l.fn.self.settings.grok.now) l.self.cache l.items l.frames.items
