use Rattle.grok.specs.steps.MeasuredOnce.{nothing_measured}
use Rattle.grok.proofs.Sizes.MeasuringAgain.{nothing_true}
use Rattle.grok.proofs.measure.measurer.Measurer.new.Goals as goal

pub returns-clause-cache : goal.returns-clause-cache
returns-clause-cache c = record { st = nothing_measured; shows = c.new.ensures; is_true = nothing_true c.args.settings.grok.now c.args.settings.with_alias_only }
