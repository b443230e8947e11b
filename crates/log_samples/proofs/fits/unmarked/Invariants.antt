use Rattle.std.proofs.Common.{◌≡◌, ◌++◌}
use Rattle.std.specs.Iterator.Adapters.{zip_first, zip_second}
use Rattle.std.specs.Slice.Iter.{iter_rest}
use Rattle.log_samples.specs.Fits.{unmarked}
use Rattle.log_samples.proofs.fits.unmarked.Given as goal

abbrev pub invariant-lines : goal.invariant-lines
invariant-lines l = l.left.items ++ unmarked (iter_rest (zip_first l.line-iterator)) (iter_rest (zip_second l.line-iterator)) ≡ unmarked l.lines l.each
