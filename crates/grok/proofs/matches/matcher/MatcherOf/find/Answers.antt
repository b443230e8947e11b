use Rattle.std.proofs.Common.{refl, rules}
use Rattle.grok.proofs.matches.matcher.MatcherOf.find.Goals as goal

pub last_match-requires : goal.last_match-requires
last_match-requires g c κs = ((refl, tt), c.in_ok-search.ensures.found (search rules))
