use Rattle.std.proofs.Common.{◌≡◌, ◌+◌}
use Rattle.grok.specs.steps.MeasureCache.{fit}
use Rattle.grok.proofs.Sizes.DigitsAddUp.{tens, above}
use Rattle.grok.proofs.measure.partial_size.digits_of_numbers_below.Given as goal

abbrev pub invariant-powers : goal.invariant-powers
invariant-powers l = record {
  power : l.power ≡ tens l._exponent;
  digits : l.digits ≡ fit (l.count + above l._exponent l.count);
}
