use Rattle.std.proofs.Common.{rules}
use Rattle.grok.proofs.measure.partial_size.add_fit.Goals as goal

-- by one tactic, so that a wrong body is refused at once
pub returns-in-Some-Some : goal.returns-in-Some-Some
returns-in-Some-Some c = search rules
