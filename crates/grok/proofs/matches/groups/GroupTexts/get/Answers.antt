use Rattle.std.proofs.Common.{rules}
use Rattle.grok.proofs.matches.groups.GroupTexts.get.Goals as goal

-- by one tactic, so that a wrong body is refused at once
pub returns-in-Listed : goal.returns-in-Listed
returns-in-Listed c = search rules
