use Rattle.std.proofs.Common.{rules}
use Rattle.grok.proofs.matches.borrowed.MatchesRef.get.Goals as goal

-- by one tactic, so that a wrong body is refused at once
pub returns : goal.returns
returns c = search rules
