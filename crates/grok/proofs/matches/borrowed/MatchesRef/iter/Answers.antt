use Rattle.std.proofs.Common.{rules}
use Rattle.grok.proofs.matches.borrowed.MatchesRef.iter.Goals as goal

-- by one tactic, so that a wrong body is refused at once
pub returns-clause-pairs : goal.returns-clause-pairs
returns-clause-pairs c = search rules

pub returns-clause-sorted : goal.returns-clause-sorted
returns-clause-sorted c = search rules
