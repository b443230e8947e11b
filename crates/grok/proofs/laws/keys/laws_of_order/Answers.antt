use Rattle.grok.proofs.Keys.FirstFaultAndLastExtract.{first_fault_is_first, extract_is_last}
use Rattle.grok.proofs.Keys.KeysAreDistinct.{other_fault_is_structural}
use Rattle.grok.proofs.laws.keys.laws_of_order.Goals as goal

pub returns-clause-fault : goal.returns-clause-fault
returns-clause-fault c = first_fault_is_first

pub returns-clause-extract : goal.returns-clause-extract
returns-clause-extract c = extract_is_last

pub returns-clause-other : goal.returns-clause-other
returns-clause-other c = other_fault_is_structural
