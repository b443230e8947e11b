use Rattle.std.proofs.Common.{◌≡◌, ◌++◌}
use Rattle.std.specs.Map.{keys_of}
use Rattle.log_samples.specs.Fits.{texts_of}
use Rattle.log_samples.proofs.fits.keys_of.Given as goal

abbrev pub invariant-keys : goal.invariant-keys
invariant-keys l = texts_of l.keys.items ++ l.key-iterator ≡ keys_of l.fn.pattern.keys
