use Rattle.grok.proofs.KeyTables.WalksAreSorted.{walk_rises}
use Rattle.grok.proofs.matches.MatchesIter.new.Goals as goal

pub returns-clause-sorted : goal.returns-clause-sorted
returns-clause-sorted c = walk_rises _ c.entries.result c.entries.ensures.sorted
