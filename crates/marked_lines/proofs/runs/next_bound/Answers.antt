-- One more field neither starts nor ends there.
use Rattle.std.proofs.Common.{◌≡◌, subst, arith, map}
use Rattle.std.proofs.lemmas.List.{take_all}
use Rattle.marked_lines.specs.Runs.{has_byte}
use Rattle.marked_lines.proofs.RunsOfLines.{fields_more, key_same}
use Rattle.marked_lines.proofs.runs.next_bound.Goals as goal

pub fields-preserved : goal.fields-preserved
fields-preserved c = λ p from to. fields_more c.args.fields.now _ c.fields.field-index p c.args.at c.fields-test.true
    (c.fields.invariant p from (grind (arith, to, c.min-bound.ensures)))
    (c.bound_of.ensures p from (grind (arith, to, c.min-bound.ensures)))

pub returns : goal.returns
returns c = λ p from to. key_same c.args.fields.now p c.args.at
    (subst (λ xs. map (has_byte p) xs ≡ map (has_byte c.args.at) xs) (take_all c.fields.field-index c.args.fields.now c.fields-test.false)
    (c.fields.invariant p from to))
