use Rattle.std.proofs.Common.{◌≡◌, take, map, filter, not}
use Rattle.log_samples.specs.Fits.{texts_of, fits, has_key}
use Rattle.log_samples.proofs.fits.fits_each.Given as goal

abbrev pub invariant-lines : goal.invariant-lines
invariant-lines l = record {
  each : l.each.items ≡ map (λ line. fits l.fn.pattern line.now) (take l.line-index l.lines);
  missing : l.missing.items ≡ filter (λ key. not (has_key l.fn.pattern (texts_of (take l.line-index l.lines)) key.now)) l.fn.missing.items;
  same : l.counter.matcher ≡ l.fn.pattern;
}
