use Rattle.std.proofs.Common.{rules}
use Rattle.grok_commands.proofs.measure.measure_pattern.Goals as goal

-- by one tactic, so that a wrong body is refused at once
pub returns-in-Some-clause-ok : goal.returns-in-Some-clause-ok
returns-in-Some-clause-ok g c = search rules

pub returns-in-Some-clause-write : goal.returns-in-Some-clause-write
returns-in-Some-clause-write g c = search rules
