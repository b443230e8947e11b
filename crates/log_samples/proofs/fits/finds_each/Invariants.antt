use Rattle.std.proofs.Common.{◌≡◌, take, map}
use Rattle.log_samples.specs.Fits.{finds}
use Rattle.log_samples.proofs.fits.finds_each.Given as goal

abbrev pub invariant-lines : goal.invariant-lines
invariant-lines l = record {
  each : l.each.items ≡ map (λ line. finds l.fn.pattern line.now) (take l.line-index l.lines);
  same : l.counter.matcher ≡ l.fn.pattern;
}
