use Rattle.std.proofs.Common.{◌∙◌, refl}
use Rattle.grok.specs.steps.Sizes.{size_or_fault}
use Rattle.grok.specs.steps.MeasureCache.{items_in}
use Rattle.grok.proofs.Sizes.KnownResultsAreRight.{fault_inside}
use Rattle.grok.proofs.measure.measurer.Measurer.fault_of_definition.Goals as goal

pub returns-clause-fault : goal.returns-clause-fault
returns-clause-fault c true_before stored =
    let texts = c.args.self.now.settings.grok.now in
    let alias_only = c.args.self.now.settings.with_alias_only in
    let size = size_or_fault alias_only (items_in texts) c.args.levels c.args.stored.now in
    c.fault_of.ensures size (c.in_ok-answer.ensures.size true_before stored)
    ∙ fault_inside alias_only (items_in texts) c.args.levels c.args.stored.now size refl
