use Rattle.std.proofs.Common.{subst, sym}
use Rattle.grok.specs.CountedMeasures.{IsCountedMeasure}
use Rattle.grok.proofs.defs.Grok.measure_counted.Goals as goal

-- it is what was found, so that a wrong body is refused at once
pub returns : goal.returns
returns c = subst (IsCountedMeasure c.args.self.now c.args.with_alias_only c.args.pattern.now c.in_ok-found.found.measure) (sym c.looks.ensures) c.in_ok-found.ensures.counted
