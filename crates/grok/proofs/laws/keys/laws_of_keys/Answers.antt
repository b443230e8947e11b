use Rattle.grok.proofs.Keys.NumberedKeysEndInNumber.{ends_in_number_where_numbered}
use Rattle.grok.proofs.Keys.KeysAreDistinct.{clash_needs_number, keys_are_distinct}
use Rattle.grok.proofs.laws.keys.laws_of_keys.Goals as goal

pub returns-clause-numbered : goal.returns-clause-numbered
returns-clause-numbered c = ends_in_number_where_numbered

pub returns-clause-clash : goal.returns-clause-clash
returns-clause-clash c = clash_needs_number

pub returns-clause-distinct : goal.returns-clause-distinct
returns-clause-distinct c = keys_are_distinct
