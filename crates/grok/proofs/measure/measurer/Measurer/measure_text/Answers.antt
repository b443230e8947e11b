use Rattle.std.proofs.Common.{Ok, Err, ◌≡◌, ◌+◌, ◌-◌, ◌<◌, ◌≤◌, ◌∷◌, [], ◌++◌, length, length-append, max, refl, sym, ◌∙◌, ap, subst, arith, IfOk}
use Rattle.std.specs.FinMap as finite
use Rattle.grok.specs.Tree.{PlaceholderItem}
use Rattle.grok.specs.Items.{label_view, meaning_view, item_view}
use Rattle.grok.specs.steps.MeasuredOnce.{State, items_within, with_progress, item_within}
use Rattle.grok.specs.steps.MeasuredOnce as kept
use Rattle.grok.specs.steps.Sizes.{Size, in_brackets, plus}
use Rattle.grok.specs.declared.measure.cache.Progress.TheVariants.{HasSize}
use Rattle.grok.specs.Measured.{saturated}
use Rattle.grok.specs.steps.MeasureCache.{items_in, shown, ShowsState, ReturnsReading, MustBeMeasured, StopsReading}
use Rattle.grok.specs.declared.measure.Looks.{Looks}
use Rattle.grok.specs.declared.measure.partial_size.Failure.{Failure}
use Rattle.grok.specs.declared.measure.measurer.Frame.{Frame}
use Rattle.grok.proofs.Sizes.TextsWithoutPlaceholders.{AreSound, sound_rest}
use Rattle.grok.proofs.Texts.EntriesAreTable.{table_of}
use Rattle.grok.proofs.Sizes.ItemsAreSound.{sound_texts}
use Rattle.grok.proofs.Sizes.MeasureLoopIsReading.{ContinuesReading, piece_counted, text_gives, fault_gives, goes_on_start, fault_stops, sum_goes_on, text_goes_on, end_goes_on}
use Rattle.grok.proofs.Sizes.MeasureLoopEnds.{AreFit, work_left, fit_low, fit_push, fit_pop, less_opened, less_ended}
use Rattle.grok.proofs.measure.measurer.Measurer.measure_text.Goals as goal

pub items-init : goal.items-init
items-init c =
    let texts = c.args.self.now.settings.grok.now in
    let none : c.args.frames.now.items ≡ [] = c.requires.none in
    let resolve = items_in texts in
    record {
      settings = refl;
      goes_on = λ st shows.
          subst (λ items. ContinuesReading c.args.self.now.settings.with_alias_only resolve c.args.levels (items_within c.args.self.now.settings.with_alias_only resolve c.args.levels (resolve c.args.text.now) st) c.args.frames.now.items items c.size_of_text-sum.result c.args.self.now.cache)
          (sym c.of_text-items.ensures)
          (subst (λ frames. ContinuesReading c.args.self.now.settings.with_alias_only resolve c.args.levels (items_within c.args.self.now.settings.with_alias_only resolve c.args.levels (resolve c.args.text.now) st) frames (resolve c.args.text.now) c.size_of_text-sum.result c.args.self.now.cache)
          (sym none)
          (goes_on_start c.args.self.now.settings.with_alias_only resolve c.args.levels (resolve c.args.text.now) st c.size_of_text-sum.result c.args.self.now.cache c.size_of_text-sum.ensures.shown shows));
      fit = subst (AreFit resolve (finite.get texts) c.args.levels) (sym none) tt;
      low = omega arith;
      sound = subst (AreSound resolve (finite.get texts)) (sym c.of_text-items.ensures) ((sound_texts (finite.get texts)).sound c.args.text.now);
      few = omega (arith, ap length none);
    }

pub items-preserved-in-Some-Text : goal.items-preserved-in-Some-Text
items-preserved-in-Some-Text c =
    let alias_only = c.args.self.now.settings.with_alias_only in
    let texts = c.args.self.now.settings.grok.now in
    let resolve = items_in texts in
    let levels = c.args.levels in
    let frames = c.items.frames.items in
    let text = c.in-Some-Text.text.now in
    let item = item_view c.in-Some-Text.field-0 in
    let cache = c.items.self.cache in
    let taken : (c.items.items ≡ item ∷ c.next_counted.new.items) × (c.next_counted.new.looks ≡ record { pieces = saturated (cache.looks.pieces + 1); ends = cache.looks.ends }) = rw c.in-Some-Text.is at c.in_ok-text.ensures in
    let one = c.size_of_text.result in
    let sound : AreSound resolve (finite.get texts) (item ∷ c.next_counted.new.items) = subst (AreSound resolve (finite.get texts)) taken.0 c.items.invariant.sound in
    record {
      settings = c.items.invariant.settings;
      goes_on = λ st shows.
          let whole = items_within alias_only resolve levels (resolve c.args.text.now) st in
          subst (λ (looks : Looks). ContinuesReading alias_only resolve levels whole frames c.next_counted.new.items c.add-sum.result (record cache { looks = looks })) (sym taken.1)
          (sum_goes_on alias_only resolve levels whole frames item c.next_counted.new.items c.items.sum cache (piece_counted cache) (subst (λ items. ContinuesReading alias_only resolve levels whole frames items c.items.sum cache) taken.0 (c.items.invariant.goes_on st shows))
          (Ok one) (λ now s. subst (λ i. ReturnsReading (Ok one) (piece_counted cache) (item_within alias_only resolve (levels - length frames) i now)) (sym (ap item_view c.in-Some-Text.field-0-is))
          (text_gives alias_only resolve (levels - length frames) text now (piece_counted cache) one c.size_of_text.ensures.shown s)) one c.add-sum.result refl c.add-sum.ensures.adds);
      fit = c.items.invariant.fit;
      low = omega (arith, c.items.invariant.low, c.size_of_text.ensures.height, c.add-sum.ensures.height);
      sound = sound_rest resolve (finite.get texts) item c.next_counted.new.items sound;
      few = c.items.invariant.few;
    }

pub items-preserved-in-Measured-Ok : goal.items-preserved-in-Measured-Ok
items-preserved-in-Measured-Ok c =
    let alias_only = c.args.self.now.settings.with_alias_only in
    let texts = c.args.self.now.settings.grok.now in
    let resolve = items_in texts in
    let levels = c.args.levels in
    let frames = c.items.frames.items in
    let item = item_view c.in-Some-Placeholder.field-0 in
    let is : item ≡ PlaceholderItem (label_view c.in-Some-Placeholder.label) (meaning_view c.in-Some-Placeholder.meaning) = ap item_view c.in-Some-Placeholder.field-0-is in
    let cache = c.items.self.cache in
    let after = c.measure_placeholder.new.cache in
    let taken : (c.items.items ≡ item ∷ c.next_counted.new.items) × (c.next_counted.new.looks ≡ record { pieces = saturated (cache.looks.pieces + 1); ends = cache.looks.ends }) = rw c.in-Some-Placeholder.is at c.in_ok-text.ensures in
    let room : levels - c.len.result ≡ levels - length frames = omega arith in
    let gives : (st : State) → ShowsState (record cache { looks = c.next_counted.new.looks }) st → ReturnsReading c.in-Measured-Ok.field-0 after (item_within alias_only resolve (levels - c.len.result) item st) =
    subst (λ i. (st : State) → ShowsState (record cache { looks = c.next_counted.new.looks }) st → ReturnsReading c.in-Measured-Ok.field-0 after (item_within alias_only resolve (levels - c.len.result) i st)) (sym is) (rw c.in-Measured-Ok.is at c.in_ok-inner-in-Some-Placeholder.ensures.reading) in
    let here : (now : State) → ShowsState (piece_counted cache) now → ReturnsReading c.in-Measured-Ok.field-0 after (item_within alias_only resolve (levels - length frames) item now) =
    λ now s. subst (λ n. ReturnsReading c.in-Measured-Ok.field-0 after (item_within alias_only resolve n item now)) room (gives now (subst (λ (looks : Looks). ShowsState (record cache { looks = looks }) now) (sym taken.1) s)) in
    let low : IfOk c.in-Measured-Ok.field-0 (λ sum. sum.height ≤ levels - c.len.result) = rw c.in-Measured-Ok.is at c.in_ok-inner-in-Some-Placeholder.ensures.low in
    let low' : c.in-Measured-Ok.one.height ≤ levels - c.len.result = subst (λ r. IfOk r (λ sum. sum.height ≤ levels - c.len.result)) c.in-Measured-Ok.field-0-is low in
    let adds : (x y : Size) → c.items.sum ≡ shown x → c.in-Measured-Ok.one ≡ shown y → c.add-sum-in-Measured-Ok.result ≡ shown (plus x y) =
    λ x y sum. rw c.in-Measured-Ok.field-0-is at c.add-sum-in-Measured-Ok.ensures.adds x y sum in
    let height : c.add-sum-in-Measured-Ok.result.height ≡ max c.items.sum.height c.in-Measured-Ok.one.height = rw c.in-Measured-Ok.field-0-is at c.add-sum-in-Measured-Ok.ensures.height in
    let sound : AreSound resolve (finite.get texts) (item ∷ c.next_counted.new.items) = subst (AreSound resolve (finite.get texts)) taken.0 c.items.invariant.sound in
    record {
      settings = c.items.invariant.settings;
      goes_on = λ st shows.
          let whole = items_within alias_only resolve levels (resolve c.args.text.now) st in
          sum_goes_on alias_only resolve levels whole frames item c.next_counted.new.items c.items.sum cache after (subst (λ items. ContinuesReading alias_only resolve levels whole frames items c.items.sum cache) taken.0 (c.items.invariant.goes_on st shows))
          c.in-Measured-Ok.field-0 here c.in-Measured-Ok.one c.add-sum-in-Measured-Ok.result c.in-Measured-Ok.field-0-is adds;
      fit = c.items.invariant.fit;
      low = omega (arith, c.items.invariant.low, low', room, height);
      sound = sound_rest resolve (finite.get texts) item c.next_counted.new.items sound;
      few = c.items.invariant.few;
    }

pub items-smaller-in-Unread : goal.items-smaller-in-Unread
items-smaller-in-Unread c =
    let alias_only = c.args.self.now.settings.with_alias_only in
    let texts = c.args.self.now.settings.grok.now in
    let resolve = items_in texts in
    let levels = c.args.levels in
    let frames = c.items.frames.items in
    let item = item_view c.in-Some-Placeholder.field-0 in
    let is : item ≡ PlaceholderItem (label_view c.in-Some-Placeholder.label) (meaning_view c.in-Some-Placeholder.meaning) = ap item_view c.in-Some-Placeholder.field-0-is in
    let cache = c.items.self.cache in
    let after = c.measure_placeholder.new.cache in
    let label = c.in-Some-Placeholder.label in
    let meaning = meaning_view c.in-Some-Placeholder.meaning in
    let text = c.in-Unread.stored.now in
    let taken : (c.items.items ≡ item ∷ c.next_counted.new.items) × (c.next_counted.new.looks ≡ record { pieces = saturated (cache.looks.pieces + 1); ends = cache.looks.ends }) = rw c.in-Some-Placeholder.is at c.in_ok-text.ensures in
    let room : levels - c.len.result ≡ levels - length frames = omega arith in
    let opened : MustBeMeasured (levels - c.len.result) label meaning text (record cache { looks = c.next_counted.new.looks }) after = rw c.in-Unread.is at c.in_ok-inner-in-Some-Placeholder.ensures.reading in
    let frame : Frame = record { name = label.name; is_capturing = c.is_capturing.result; items = c.next_counted.new.items; sum = c.items.sum } in
    let pushed : c.push.new.self.items ≡ frames ++ frame ∷ [] = c.in_ok-push-in-Unread.ensures.items in
    let sound : AreSound resolve (finite.get texts) (item ∷ c.next_counted.new.items) = subst (AreSound resolve (finite.get texts)) taken.0 c.items.invariant.sound in
    subst (λ items. work_left resolve (finite.get texts) (finite.entries texts) after c.of_stored-items.result c.push.new.self.items < work_left resolve (finite.get texts) (finite.entries texts) cache items frames) (sym taken.0)
    (subst (λ items. work_left resolve (finite.get texts) (finite.entries texts) after items c.push.new.self.items < work_left resolve (finite.get texts) (finite.entries texts) cache (item ∷ c.next_counted.new.items) frames) (sym c.of_stored-items.ensures)
    (subst (λ fs. work_left resolve (finite.get texts) (finite.entries texts) after (resolve text) fs < work_left resolve (finite.get texts) (finite.entries texts) cache (item ∷ c.next_counted.new.items) frames) (sym pushed)
    (less_opened resolve (finite.get texts) (finite.entries texts) (table_of texts) cache after item c.next_counted.new.items frames frame (label_view label) text (is ∙ ap (PlaceholderItem (label_view label)) opened.is) sound opened.unkept opened.updated refl)))

pub items-preserved-in-Unread : goal.items-preserved-in-Unread
items-preserved-in-Unread c =
    let alias_only = c.args.self.now.settings.with_alias_only in
    let texts = c.args.self.now.settings.grok.now in
    let resolve = items_in texts in
    let levels = c.args.levels in
    let frames = c.items.frames.items in
    let item = item_view c.in-Some-Placeholder.field-0 in
    let is : item ≡ PlaceholderItem (label_view c.in-Some-Placeholder.label) (meaning_view c.in-Some-Placeholder.meaning) = ap item_view c.in-Some-Placeholder.field-0-is in
    let cache = c.items.self.cache in
    let after = c.measure_placeholder.new.cache in
    let label = c.in-Some-Placeholder.label in
    let meaning = meaning_view c.in-Some-Placeholder.meaning in
    let text = c.in-Unread.stored.now in
    let taken : (c.items.items ≡ item ∷ c.next_counted.new.items) × (c.next_counted.new.looks ≡ record { pieces = saturated (cache.looks.pieces + 1); ends = cache.looks.ends }) = rw c.in-Some-Placeholder.is at c.in_ok-text.ensures in
    let room : levels - c.len.result ≡ levels - length frames = omega arith in
    let opened : MustBeMeasured (levels - c.len.result) label meaning text (record cache { looks = c.next_counted.new.looks }) after = rw c.in-Unread.is at c.in_ok-inner-in-Some-Placeholder.ensures.reading in
    let frame : Frame = record { name = label.name; is_capturing = c.is_capturing.result; items = c.next_counted.new.items; sum = c.items.sum } in
    let pushed : c.push.new.self.items ≡ frames ++ frame ∷ [] = c.in_ok-push-in-Unread.ensures.items in
    let sound : AreSound resolve (finite.get texts) (item ∷ c.next_counted.new.items) = subst (AreSound resolve (finite.get texts)) taken.0 c.items.invariant.sound in
    let here : MustBeMeasured (levels - length frames) label meaning text (piece_counted cache) after =
    subst (λ n. MustBeMeasured n label meaning text (piece_counted cache) after) room
    (subst (λ (looks : Looks). MustBeMeasured (levels - c.len.result) label meaning text (record cache { looks = looks }) after) taken.1 opened) in
    let some = opened.room in
    record {
      settings = c.items.invariant.settings;
      goes_on = λ st shows.
          let whole = items_within alias_only resolve levels (resolve c.args.text.now) st in
          subst (λ items. ContinuesReading alias_only resolve levels whole c.push.new.self.items items c.size_of_text-sum-in-Unread.result after) (sym c.of_stored-items.ensures)
          (subst (λ fs. ContinuesReading alias_only resolve levels whole fs (resolve text) c.size_of_text-sum-in-Unread.result after) (sym pushed)
          (text_goes_on alias_only resolve levels whole frames item c.next_counted.new.items c.items.sum cache after (subst (λ items. ContinuesReading alias_only resolve levels whole frames items c.items.sum cache) taken.0 (c.items.invariant.goes_on st shows))
          label meaning text c.is_capturing.result c.size_of_text-sum-in-Unread.result is here c.is_capturing.ensures c.size_of_text-sum-in-Unread.ensures.shown));
      fit = subst (AreFit resolve (finite.get texts) levels) (sym pushed) (fit_push resolve (finite.get texts) levels frames frame c.items.invariant.fit c.items.invariant.low (sound_rest resolve (finite.get texts) item c.next_counted.new.items sound));
      low = omega (arith, c.size_of_text-sum-in-Unread.ensures.height);
      sound = subst (AreSound resolve (finite.get texts)) (sym c.of_stored-items.ensures) ((sound_texts (finite.get texts)).sound text);
      few = omega (arith, some, ap length pushed, length-append frames (frame ∷ []), room);
    }

pub items-smaller : goal.items-smaller
items-smaller c =
    let texts = c.args.self.now.settings.grok.now in
    let resolve = items_in texts in
    let frames = c.pop.new.self.items in
    let frame = c.in-Some.frame in
    let taken : (c.items.items ≡ []) × (c.next_counted.new.looks ≡ record { pieces = c.items.self.cache.looks.pieces; ends = saturated (c.items.self.cache.looks.ends + 1) }) = rw c.in-None.is at c.in_ok-text.ensures in
    let popped : c.items.frames.items ≡ frames ++ frame ∷ [] = c.in-Some.ensures.items in
    subst (λ items. work_left resolve (finite.get texts) (finite.entries texts) c.set_progress.new.self frame.items frames < work_left resolve (finite.get texts) (finite.entries texts) c.items.self.cache items c.items.frames.items) (sym taken.0)
    (subst (λ fs. work_left resolve (finite.get texts) (finite.entries texts) c.set_progress.new.self frame.items frames < work_left resolve (finite.get texts) (finite.entries texts) c.items.self.cache [] fs) (sym popped)
    (less_ended resolve (finite.get texts) (finite.entries texts) c.items.self.cache c.set_progress.new.self frames frame frame.name.now (HasSize c.items.sum) refl c.in_ok-set_progress-in-Some.ensures.by_name))

pub items-preserved : goal.items-preserved
items-preserved c =
    let alias_only = c.args.self.now.settings.with_alias_only in
    let texts = c.args.self.now.settings.grok.now in
    let resolve = items_in texts in
    let levels = c.args.levels in
    let frames = c.pop.new.self.items in
    let frame = c.in-Some.frame in
    let cache = c.items.self.cache in
    let taken : (c.items.items ≡ []) × (c.next_counted.new.looks ≡ record { pieces = cache.looks.pieces; ends = saturated (cache.looks.ends + 1) }) = rw c.in-None.is at c.in_ok-text.ensures in
    let popped : c.items.frames.items ≡ frames ++ frame ∷ [] = c.in-Some.ensures.items in
    let p = fit_pop resolve (finite.get texts) levels frames frame (subst (AreFit resolve (finite.get texts) levels) popped c.items.invariant.fit) in
    let long : length c.items.frames.items ≡ length frames + 1 = ap length popped ∙ length-append frames (frame ∷ []) in
    record {
      settings = c.items.invariant.settings;
      goes_on = λ st shows.
          let whole = items_within alias_only resolve levels (resolve c.args.text.now) st in
          let g = subst (λ items. ContinuesReading alias_only resolve levels whole c.items.frames.items items c.items.sum cache) taken.0 (c.items.invariant.goes_on st shows) in
          end_goes_on alias_only resolve levels whole frames frame c.items.sum c.add-sum-in-Some.result cache c.set_progress.new.self (subst (λ fs. ContinuesReading alias_only resolve levels whole fs [] c.items.sum cache) popped g)
          (λ now size is s. c.in_ok-set_progress-in-Some.ensures.shows now (kept.HasSize size) (ap kept.HasSize is) (subst (λ (looks : Looks). ShowsState (record cache { looks = looks }) now) (sym taken.1) s))
          (λ x y a b. c.add-sum-in-Some.ensures.adds x (in_brackets frame.is_capturing y) a (c.bracketed-inner.ensures.brackets y b));
      fit = p.fit;
      low = omega (arith, p.low, c.items.invariant.low, c.items.invariant.few, long, c.bracketed-inner.ensures.height, c.add-sum-in-Some.ensures.height);
      sound = p.sound;
      few = omega (arith, c.items.invariant.few, long);
    }

pub returns-in-Measured-Err-clause-stops : goal.returns-in-Measured-Err-clause-stops
returns-in-Measured-Err-clause-stops c =
    let alias_only = c.args.self.now.settings.with_alias_only in
    let texts = c.args.self.now.settings.grok.now in
    let resolve = items_in texts in
    let levels = c.args.levels in
    let frames = c.items.frames.items in
    let item = item_view c.in-Some-Placeholder.field-0 in
    let is : item ≡ PlaceholderItem (label_view c.in-Some-Placeholder.label) (meaning_view c.in-Some-Placeholder.meaning) = ap item_view c.in-Some-Placeholder.field-0-is in
    let cache = c.items.self.cache in
    let after = c.measure_placeholder.new.cache in
    let taken : (c.items.items ≡ item ∷ c.next_counted.new.items) × (c.next_counted.new.looks ≡ record { pieces = saturated (cache.looks.pieces + 1); ends = cache.looks.ends }) = rw c.in-Some-Placeholder.is at c.in_ok-text.ensures in
    let room : levels - c.len.result ≡ levels - length frames = omega arith in
    let gives : (st : State) → ShowsState (record cache { looks = c.next_counted.new.looks }) st → ReturnsReading c.in-Measured-Err.field-0 after (item_within alias_only resolve (levels - c.len.result) item st) =
    subst (λ i. (st : State) → ShowsState (record cache { looks = c.next_counted.new.looks }) st → ReturnsReading c.in-Measured-Err.field-0 after (item_within alias_only resolve (levels - c.len.result) i st)) (sym is) (rw c.in-Measured-Err.is at c.in_ok-inner-in-Some-Placeholder.ensures.reading) in
    let here : (now : State) → ShowsState (piece_counted cache) now → ReturnsReading c.in-Measured-Err.field-0 after (item_within alias_only resolve (levels - length frames) item now) =
    λ now s. subst (λ n. ReturnsReading c.in-Measured-Err.field-0 after (item_within alias_only resolve n item now)) room (gives now (subst (λ (looks : Looks). ShowsState (record cache { looks = looks }) now) (sym taken.1) s)) in
    let fault : c.fault_after-in-Measured-Err.result.fault ≡ c.in-Measured-Err.failure.fault = rw c.in-Measured-Err.field-0-is at c.fault_after-in-Measured-Err.ensures.fault in
    let reach : c.fault_after-in-Measured-Err.result.height ≡ max c.items.sum.height c.in-Measured-Err.failure.height = rw c.in-Measured-Err.field-0-is at c.fault_after-in-Measured-Err.ensures.reach in
    λ st shows.
    let whole = items_within alias_only resolve levels (resolve c.args.text.now) st in
    fault_stops alias_only resolve levels whole frames item c.next_counted.new.items c.items.sum cache after (subst (λ items. ContinuesReading alias_only resolve levels whole frames items c.items.sum cache) taken.0 (c.items.invariant.goes_on st shows))
    c.in-Measured-Err.field-0 here c.in-Measured-Err.failure c.fault_after-in-Measured-Err.result c.in-Measured-Err.field-0-is fault reach

pub returns-in-Some-Fault-clause-stops : goal.returns-in-Some-Fault-clause-stops
returns-in-Some-Fault-clause-stops c =
    let alias_only = c.args.self.now.settings.with_alias_only in
    let texts = c.args.self.now.settings.grok.now in
    let resolve = items_in texts in
    let levels = c.args.levels in
    let frames = c.items.frames.items in
    let item = item_view c.in-Some-Fault.field-0 in
    let cache = c.items.self.cache in
    let taken : (c.items.items ≡ item ∷ c.next_counted.new.items) × (c.next_counted.new.looks ≡ record { pieces = saturated (cache.looks.pieces + 1); ends = cache.looks.ends }) = rw c.in-Some-Fault.is at c.in_ok-text.ensures in
    let failure : Failure = record { fault = c.in-Some-Fault.fault; height = 0 } in
    λ st shows.
    let whole = items_within alias_only resolve levels (resolve c.args.text.now) st in
    subst (λ (looks : Looks). StopsReading levels (Err c.fault_after.result) frames (record cache { looks = looks }) whole) (sym taken.1)
    (fault_stops alias_only resolve levels whole frames item c.next_counted.new.items c.items.sum cache (piece_counted cache) (subst (λ items. ContinuesReading alias_only resolve levels whole frames items c.items.sum cache) taken.0 (c.items.invariant.goes_on st shows))
    (Err failure) (λ now s. subst (λ i. ReturnsReading (Err failure) (piece_counted cache) (item_within alias_only resolve (levels - length frames) i now)) (sym (ap item_view c.in-Some-Fault.field-0-is))
    (fault_gives alias_only resolve (levels - length frames) now (piece_counted cache) failure refl s)) failure c.fault_after.result refl c.fault_after.ensures.fault c.fault_after.ensures.reach)

pub returns-in-Measured-Err-clause-low : goal.returns-in-Measured-Err-clause-low
returns-in-Measured-Err-clause-low c = fit_low (items_in c.args.self.now.settings.grok.now) (finite.get c.args.self.now.settings.grok.now) c.args.levels c.args.levels c.items.frames.items (omega arith) c.items.invariant.fit

pub returns-in-Some-Fault-clause-low : goal.returns-in-Some-Fault-clause-low
returns-in-Some-Fault-clause-low c = fit_low (items_in c.args.self.now.settings.grok.now) (finite.get c.args.self.now.settings.grok.now) c.args.levels c.args.levels c.items.frames.items (omega arith) c.items.invariant.fit
