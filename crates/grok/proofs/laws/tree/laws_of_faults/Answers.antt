use Rattle.grok.proofs.Trees.TreeLawsHold.{unused_definitions_do_not_matter}
use Rattle.grok.proofs.laws.tree.laws_of_faults.Goals as goal

pub returns-clause-unused : goal.returns-clause-unused
returns-clause-unused c = unused_definitions_do_not_matter
