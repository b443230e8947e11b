use Rattle.std.proofs.Common.{◌∙◌, length, count_by, ap, arith}
use Rattle.log_samples.specs.Fits.{texts_of, has_key}
use Rattle.log_samples.proofs.KeysLeft.{counted}
use Rattle.log_samples.proofs.fits.fitted_lines.Goals as goal

pub returns-clause-fields : goal.returns-clause-fields
returns-clause-fields c =
    let p = has_key c.args.pattern.now (texts_of c.args.lines.now) in
    let left = ap (λ items. length items) c.in_ok-each.ensures.missing in
    let count = counted p c.in_ok-missing.missing.items ∙ ap (count_by p) c.in_ok-missing.ensures in
    grind (arith, left, count, c.saturating_sub-fields.ensures, c.len-all.ensures, c.len.ensures)
