use Rattle.std.proofs.Common.{◌≡◌, ◌++◌}
use Rattle.groklog_keys.specs.AllKeys.{all_keys, texts_of}
use Rattle.groklog_keys.proofs.fields.all_keys.Given as goal

abbrev pub invariant-keys : goal.invariant-keys
invariant-keys l = texts_of l.all.items ++ texts_of l.key-iterator ≡ all_keys l.fn.patterns
