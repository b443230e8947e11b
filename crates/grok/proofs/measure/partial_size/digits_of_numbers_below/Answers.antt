use Rattle.std.proofs.Common.{◌≡◌, ◌+◌, ◌-◌, ◌*◌, ◌^◌, ◌≤◌, suc, Some, arith, sym, ap, ◌∙◌, add-one}
use Rattle.grok.specs.steps.MeasureCache.{fit}
use Rattle.grok.proofs.Sizes.DigitsAddUp.{tens, above, tens_fit, digits_above}
use Rattle.grok.proofs.Sizes.SumsFit.{fit_is}
use Rattle.grok.proofs.measure.partial_size.digits_of_numbers_below.Goals as goal

pub overflow_mul-power : goal.overflow_mul-power
overflow_mul-power c =
    let next : tens (suc c.powers._exponent) ≤ 10 ^ 19 = tens_fit (suc c.powers._exponent) (omega arith) in
    omega (arith, c.powers.invariant.power)

pub powers-preserved : goal.powers-preserved
powers-preserved c =
    let e = c.powers._exponent in
    let n = c.args.count in
    let power : c.powers.power * 10 ≡ tens (e + 1) = ap (λ p. p * 10) c.powers.invariant.power ∙ ap tens (sym (add-one e)) in
    record {
      power = power;
      digits =
          c.add_fit-digits.ensures (n + above e n) (n - tens (e + 1)) c.powers.invariant.digits
          (ap Some (c.saturating_sub.ensures ∙ ap (λ p. n - p) power) ∙ fit_is (n - tens (e + 1)) (omega arith))
          ∙ ap fit (omega (arith, ap (λ k. above k n) (add-one e), ap tens (add-one e)));
    }

pub returns : goal.returns
returns c =
    let n = c.args.count in
    let all : c.powers._exponent ≡ 19 = omega arith in
    c.powers.invariant.digits ∙ ap (λ k. fit (n + above k n)) all ∙ ap fit (sym (digits_above 19 n (omega arith)))
