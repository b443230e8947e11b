use Rattle.std.proofs.Common.{◌≡◌, drop}
use Rattle.groklog_keys.specs.Keys.{has_taken_key}
use Rattle.groklog_keys.proofs.keys.check_all_free.Given as goal

abbrev pub invariant-added : goal.invariant-added
invariant-added l = has_taken_key l.patterns (drop l.one-index l.added) ≡ has_taken_key l.fn.patterns l.fn.added
