use Rattle.std.proofs.Common.{◌≡◌, take}
use Rattle.groklog_keys.specs.AllKeys.{all_keys, set_texts}
use Rattle.groklog_keys.proofs.keys.key_set.Given as goal

abbrev pub invariant-patterns : goal.invariant-patterns
invariant-patterns l = set_texts l.keys ≡ all_keys (take l.named-index l.patterns)
