use Rattle.std.proofs.Common.{arith}
use Rattle.grok.proofs.KeyTables.WalksAreSorted.{extract_found}
use Rattle.grok.proofs.matches.PatternOf.get_extract.Goals as goal

-- by one tactic, so that a wrong body is refused at once
pub returns-in-Some : goal.returns-in-Some
returns-in-Some g c = grind (arith, extract_found)

pub returns-in-None : goal.returns-in-None
returns-in-None g c = grind (arith, extract_found)
