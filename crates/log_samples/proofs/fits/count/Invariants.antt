use Rattle.std.proofs.Common.{◌≡◌, take, count_by}
use Rattle.log_samples.proofs.fits.count.Given as goal

abbrev pub invariant-each : goal.invariant-each
invariant-each l = l.count ≡ count_by (λ is_marked. is_marked) (take l.is_marked-index l.each)
