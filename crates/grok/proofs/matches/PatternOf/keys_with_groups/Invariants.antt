use Rattle.std.proofs.Common.{◌≡◌, ◌++◌, map}
use Rattle.grok.specs.KeyTable.{entry_of_group}
use Rattle.grok.proofs.matches.PatternOf.keys_with_groups.Given as goal

abbrev pub invariant-keys : goal.invariant-keys
invariant-keys g l = map entry_of_group l.keys.items ++ l.key-iterator ≡ l.self.keys
