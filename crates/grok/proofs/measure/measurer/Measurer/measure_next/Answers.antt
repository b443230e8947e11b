use Rattle.std.proofs.Common.{refl, sym, ◌∙◌, subst}
use Rattle.grok.specs.Tree.{deepest}
use Rattle.grok.specs.steps.Sizes.{sizes, size_or_fault}
use Rattle.grok.specs.steps.MeasureCache.{items_in, ShowsCorrectState}
use Rattle.grok.specs.declared.settings.Settings.{Settings}
use Rattle.grok.proofs.Sizes.MeasuringAgain.{size_is, stays_true, tree_from}
use Rattle.grok.proofs.measure.measurer.Measurer.measure_next.Goals as goal

pub returns-clause-answer : goal.returns-clause-answer
returns-clause-answer c known =
    let texts = c.args.self.now.settings.grok.now in
    let alias_only = c.args.self.now.settings.with_alias_only in
    let size = sizes alias_only (size_or_fault alias_only (items_in texts) deepest) (items_in texts c.args.pattern.now) in
    c.measure_of_result.ensures size (size_is texts alias_only deepest c.args.pattern.now c.in_ok-answer.answer c.args.self.now.cache c.measure_within.new.self.cache c.in_ok-answer.ensures.reading known)
    ∙ tree_from texts alias_only c.args.pattern.now size refl

pub returns-clause-cache : goal.returns-clause-cache
returns-clause-cache c known =
    let texts = c.args.self.now.settings.grok.now in
    let alias_only = c.args.self.now.settings.with_alias_only in
    subst (λ (settings : Settings). ShowsCorrectState settings.grok.now settings.with_alias_only c.measure_within.new.self.cache) (sym c.in_ok-answer.ensures.settings)
    (stays_true texts alias_only deepest c.args.pattern.now c.in_ok-answer.answer c.args.self.now.cache c.measure_within.new.self.cache c.in_ok-answer.ensures.reading known)
