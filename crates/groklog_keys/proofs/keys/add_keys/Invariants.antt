use Rattle.std.proofs.Common.{◌≡◌}
use Rattle.groklog_keys.specs.AllKeys.{own_keys, set_texts, with_keys}
use Rattle.groklog_keys.proofs.keys.add_keys.Given as goal

abbrev pub invariant-keys : goal.invariant-keys
invariant-keys l = with_keys (set_texts l.keys) l.key-iterator ≡ with_keys (set_texts l.fn.keys) (own_keys l.fn.named)
