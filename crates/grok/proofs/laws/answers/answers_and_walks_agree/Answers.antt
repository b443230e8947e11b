use Rattle.grok.proofs.KeyTables.WalksHaveAnsweredKeys.{answers_are_those_of_the_walk}
use Rattle.grok.proofs.laws.answers.answers_and_walks_agree.Goals as goal

pub returns-clause-pairs : goal.returns-clause-pairs
returns-clause-pairs c = answers_are_those_of_the_walk
