use Rattle.std.proofs.Common.{◌∙◌, ◌++◌, inl, inr, ap}
use Rattle.std.specs.Iterator.Adapters.{zip_first, zip_second}
use Rattle.std.specs.Slice.Iter.{iter_rest}
use Rattle.std.proofs.lemmas.List.{nil_from_length}
use Rattle.log_samples.specs.Fits.{unmarked}
use Rattle.log_samples.proofs.MarkedLines.{taken, skipped, none_left}
use Rattle.log_samples.proofs.fits.unmarked.Goals as goal

pub lines-preserved-in-Continue-1 : goal.lines-preserved-in-Continue-1
lines-preserved-in-Continue-1 c =
    ap (λ left. left ++ unmarked (iter_rest (zip_first c.next.new.self)) (iter_rest (zip_second c.next.new.self))) c.in_ok-push.ensures.items
    ∙ taken c.lines.left.items _ _ _ _ _ c.in-Some.line.now c.in-Some.is_marked.now c.in-Some.ensures.steps.0 c.in-Some.ensures.steps.1 c.lines.invariant c.if-not-is_marked.true

pub lines-preserved : goal.lines-preserved
lines-preserved c =
    skipped c.lines.left.items _ _ _ _ _ c.in-Some.line.now c.in-Some.is_marked.now c.in-Some.ensures.steps.0 c.in-Some.ensures.steps.1 c.lines.invariant c.if-not-is_marked.false

pub returns : goal.returns
returns c =
    let lines = iter_rest (zip_first c.lines.line-iterator) in
    let each = iter_rest (zip_second c.lines.line-iterator) in
    none_left c.lines.left.items lines _ each c.lines.invariant
    (elim c.in-None.ensures.steps [
      | inl a ↦ inl (nil_from_length lines a.1.0)
      | inr b ↦ inr (nil_from_length each b.1.0)
    ])
