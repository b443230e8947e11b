use Rattle.std.proofs.Common.{rules}
use Rattle.grok.proofs.matches.PatternOf.capture_names.Goals as goal

-- by one tactic, so that a wrong body is refused at once
pub returns-clause-keys : goal.returns-clause-keys
returns-clause-keys g c = search rules

pub returns-clause-sorted : goal.returns-clause-sorted
returns-clause-sorted g c = search rules
