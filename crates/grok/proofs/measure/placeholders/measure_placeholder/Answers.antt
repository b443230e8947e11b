use Rattle.std.proofs.Common.{ap}
use Rattle.grok.specs.Tree as tree
use Rattle.grok.specs.Items.{label_view, meaning_view}
use Rattle.grok.specs.steps.MeasureCache.{items_in}
use Rattle.grok.proofs.Sizes.MeasureLoopIsReading.{labelled_size, inline_gives}
use Rattle.grok.proofs.measure.placeholders.measure_placeholder.Goals as goal

pub returns-in_ok-size-in-Stored-clause-reading : goal.returns-in_ok-size-in-Stored-clause-reading
returns-in_ok-size-in-Stored-clause-reading c =
    labelled_size c.args.settings.with_alias_only (items_in c.args.settings.grok.now) c.args.levels c.args.label (meaning_view c.args.meaning) c.in-Stored.stored.now c.args.cache.now c.label.new.self _ c.in_ok-size-in-Stored.size
    (ap meaning_view c.in-Stored.is) c.label.ensures.shows c.label.ensures.by_name c.in_ok-size-in-Stored.ensures.reading

pub returns-in-Inline-clause-reading : goal.returns-in-Inline-clause-reading
returns-in-Inline-clause-reading c st shows =
    inline_gives c.args.settings.with_alias_only (items_in c.args.settings.grok.now) c.args.levels (tree.PlaceholderItem (label_view c.args.label) (meaning_view c.args.meaning)) (label_view c.args.label) c.in-Inline.text.now st c.label.new.self
    (ap (λ m. tree.PlaceholderItem (label_view c.args.label) (meaning_view m)) c.in-Inline.is)
    (c.label.ensures.shows st shows) c.measure_inline-inner.result c.size_of_placeholder.result c.measure_inline-inner.ensures.reading c.measure_inline-inner.ensures.reach c.size_of_placeholder.ensures.reading

pub returns-in-Inline-clause-low : goal.returns-in-Inline-clause-low
returns-in-Inline-clause-low c = c.size_of_placeholder.ensures.low c.args.levels c.measure_inline-inner.ensures.low
