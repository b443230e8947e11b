use Rattle.std.proofs.Common.{◌≡◌, ◌+◌, ◌≤◌, length}
use Rattle.grok.specs.Items.{fault_view}
use Rattle.grok.specs.steps.MeasuredOnce.{State}
use Rattle.grok.specs.steps.MeasureCache.{ShowsState, AreLow}
use Rattle.grok.proofs.Sizes.MeasureLoopIsReading.{Unwinds}
use Rattle.grok.proofs.measure.measurer.Measurer.remember_fault.Given as goal

abbrev pub invariant-frames : goal.invariant-frames
invariant-frames l = record {
  settings : l.self.settings ≡ l.fn.self.settings;
  fault : l.failure.fault ≡ l.fn.failure.fault;
  unwinds : (st : State) → ShowsState l.fn.self.cache st → st.reach ≡ l.fn.failure.height → Unwinds l.levels l.fn.frames.items l.frames.items (fault_view l.fn.failure.fault) st l.self.cache l.failure.height;
  few : length l.frames.items ≤ l.levels;
  low : AreLow l.levels l.frames.items;
  reach : l.failure.height + length l.frames.items ≤ l.levels + l.levels + 1;
}

abbrev pub decreases-frames : goal.decreases-frames
decreases-frames l = length l.frames.items
