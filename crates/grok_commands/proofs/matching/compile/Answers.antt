use Rattle.std.proofs.Common.{rules}
use Rattle.grok_commands.proofs.matching.compile.Goals as goal

-- by one tactic, so that a wrong body is refused at once
pub returns-clause-ok : goal.returns-clause-ok
returns-clause-ok c = search rules

pub returns-clause-pattern : goal.returns-clause-pattern
returns-clause-pattern c = search rules
