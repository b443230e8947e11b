use Rattle.std.proofs.Common.{rules}
use Rattle.grok.proofs.engine.regex_engine.RefusalFromRegexError.from.Goals as goal

-- by one tactic, so that a wrong body is refused at once
pub returns-in_default : goal.returns-in_default
returns-in_default c = search rules
