use Rattle.std.proofs.Common.{◌≡◌, ◌<◌, Err, refl, sym, ap, arith}
use Rattle.grok.specs.steps.MeasuredOnce.{InProgress}
use Rattle.grok.specs.Items.{fault_view, label_view}
use Rattle.grok.specs.steps.MeasureCache.{items_in}
use Rattle.grok.proofs.Sizes.MeasureLoopIsReading.{known_gives, none_gives}
use Rattle.grok.proofs.measure.placeholders.measure_stored.Goals as goal

pub returns-in-Some-clause-reading : goal.returns-in-Some-clause-reading
returns-in-Some-clause-reading c st shows =
    let some : 0 < c.args.levels = omega arith in
    known_gives c.args.settings.with_alias_only (items_in c.args.settings.grok.now) c.args.levels (label_view c.args.label) c.args.stored.now st c.args.cache.now some shows c.in-Some.known c.size_of_placeholder-in-Some.result
    (c.in-Some.ensures.known st shows) c.size_of_placeholder-in-Some.ensures.reading

pub returns-in-Some-clause-low : goal.returns-in-Some-clause-low
returns-in-Some-clause-low c = c.size_of_placeholder-in-Some.ensures.low c.args.levels c.in-Some.ensures.low

pub returns-clause-reading : goal.returns-clause-reading
returns-clause-reading c =
    let some : 0 < c.args.levels = omega arith in
    (refl, some, record { unkept = c.in_default.ensures.known.0; unknown = c.in_default.ensures.known.1; updated = c.in_ok-set_progress.ensures.by_name; shows = λ st shows. c.in_ok-set_progress.ensures.shows st InProgress refl shows })

pub returns-then-levels-eq0-clause-reading : goal.returns-then-levels-eq0-clause-reading
returns-then-levels-eq0-clause-reading c st shows =
    let none : c.args.levels ≡ 0 = omega arith in
    none_gives c.args.settings.with_alias_only (items_in c.args.settings.grok.now) c.args.levels (label_view c.args.label) c.args.stored.now st c.args.cache.now none shows (Err c.too_deep.result) c.size_of_placeholder.result
    (ap (λ f. Err (fault_view f)) c.too_deep.ensures.fault) (sym c.too_deep.ensures.reach) c.size_of_placeholder.ensures.reading

pub returns-then-levels-eq0-clause-low : goal.returns-then-levels-eq0-clause-low
returns-then-levels-eq0-clause-low c = c.size_of_placeholder.ensures.low c.args.levels tt

-- what follows says nothing of a text that is opened
pub returns-clause-by_name : goal.returns-clause-by_name
returns-clause-by_name c = tt

pub returns-clause-low : goal.returns-clause-low
returns-clause-low c = tt

pub returns-clause-reach : goal.returns-clause-reach
returns-clause-reach c = tt
