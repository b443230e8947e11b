use Rattle.std.proofs.Common.{arith}
use Rattle.std.proofs.lemmas.Grind.{common_steps}
use Rattle.grok.proofs.defs.Grok.from_iter.Goals as goal

-- by one tactic, so that a wrong body is refused at once
pub loop-name-preserved : goal.loop-name-preserved
loop-name-preserved c = grind (arith, common_steps)
