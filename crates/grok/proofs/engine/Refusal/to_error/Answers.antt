use Rattle.std.proofs.Common.{rules}
use Rattle.grok.proofs.engine.Refusal.to_error.Goals as goal

-- by one tactic, so that a wrong body is refused at once
pub returns-in-Refused : goal.returns-in-Refused
returns-in-Refused c = search rules
