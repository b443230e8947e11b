use Rattle.std.proofs.Common.{rules}
use Rattle.grok.proofs.matches.PatternOf.match_against.Goals as goal

-- by one tactic, so that a wrong body is refused at once
pub returns-in_default-clause-captures : goal.returns-in_default-clause-captures
returns-in_default-clause-captures g c = search rules
