use Rattle.std.proofs.Common.{rules}
use Rattle.grok.proofs.measure.partial_size.length_of_partial_size.Goals as goal

-- by one tactic, so that a wrong body is refused at once
pub returns-in-Some : goal.returns-in-Some
returns-in-Some c = search rules
