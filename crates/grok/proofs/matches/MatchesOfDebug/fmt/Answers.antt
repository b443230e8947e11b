use Rattle.std.proofs.Common.{rules}
use Rattle.grok.proofs.matches.MatchesOfDebug.fmt.Goals as goal

-- by one tactic, so that a wrong body is refused at once
pub returns : goal.returns
returns g c = search rules
