use Rattle.std.proofs.Common.{◌≡◌, ◌∷◌, [], ◌++◌, ◌+◌, ◌-◌, length, length-append, ◌∙◌, ap, subst, arith}
use Rattle.grok.specs.Items.{fault_view}
use Rattle.grok.specs.steps.MeasuredOnce.{failed_progress}
use Rattle.grok.specs.steps.MeasureCache.{AreLow}
use Rattle.grok.proofs.Sizes.MeasureLoopIsReading.{Unwinds, unwinds_more}
use Rattle.grok.proofs.Sizes.MeasureLoopEnds.{low_pop}
use Rattle.grok.proofs.measure.measurer.Measurer.remember_fault.Goals as goal

pub frames-preserved : goal.frames-preserved
frames-preserved c =
    let levels = c.args.levels in
    let all = c.args.frames.now.items in
    let left = c.pop.new.self.items in
    let frame = c.in-Some.frame in
    let fault = fault_view c.args.failure.fault in
    let height = c.frames.failure.height in
    let popped : c.frames.frames.items ≡ left ++ frame ∷ [] = c.in-Some.ensures.items in
    let long : length c.frames.frames.items ≡ length left + 1 = ap length popped ∙ length-append left (frame ∷ []) in
    let low = low_pop levels left frame (subst (AreLow levels) popped c.frames.invariant.low) in
    let room : levels - c.len.result ≡ levels - length left = omega arith in
    record {
      settings = c.frames.invariant.settings;
      fault = c.fault_after-failure.ensures.fault ∙ c.frames.invariant.fault;
      unwinds = λ st shows reach.
          unwinds_more levels (levels - c.len.result) all left frame fault st c.frames.self.cache c.set_progress.new.self c.progress_of_failure-progress.result height c.fault_after-failure.result.height
          (subst (λ frames. Unwinds levels all frames fault st c.frames.self.cache height) popped (c.frames.invariant.unwinds st shows reach)) room
          (c.progress_of_failure-progress.ensures ∙ ap (λ f. failed_progress (fault_view f) (levels - c.len.result) height) c.frames.invariant.fault)
          (omega (arith, c.fault_after-failure.ensures.reach)) c.in_ok-set_progress.ensures.shows;
      few = omega (arith, long, c.frames.invariant.few);
      low = low.0;
      reach = omega (arith, long, low.1, c.frames.invariant.few, c.frames.invariant.reach, c.fault_after-failure.ensures.reach);
    }
