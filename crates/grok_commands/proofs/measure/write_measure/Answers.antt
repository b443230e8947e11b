use Rattle.std.proofs.Common.{arith}
use Rattle.std.proofs.lemmas.Grind.{common_steps}
use Rattle.grok_commands.proofs.measure.write_measure.Goals as goal

-- by one tactic, so that a wrong body is refused at once
pub returns-clause-size : goal.returns-clause-size
returns-clause-size c = grind (arith, common_steps)
