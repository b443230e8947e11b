use Rattle.std.proofs.Common.{◌≡◌, ◌+◌, take, ap, sym, subst, ◌∙◌}
use Rattle.oniguruma_syntax.specs.Changes.{change_text, HasCopies}
use Rattle.oniguruma_syntax.proofs.CopiesAreRecorded.{one_more_copy}
use Rattle.oniguruma_syntax.proofs.change.Changes.add_all.Goals as goal

pub loop-change-preserved : goal.loop-change-preserved
loop-change-preserved c =
    let others = c.args.changes.now in
    let i = c.loop-change.change-index in
    let cloned = c.in_ok-clone.ensures.cases in
    let copied : change_text c.in_ok-clone.field-0 ≡ change_text c.change-item.result = λ j. (cloned.0 j, cloned.1.0 j, cloned.1.1 j) in
    subst (HasCopies c.args.self.now.recorded.items (take (i + 1) others)) (sym c.in_ok-add.ensures)
    (one_more_copy _ others _ i c.change-item.result c.in_ok-clone.field-0 c.loop-change-test.true c.loop-change.invariant (copied ∙ ap change_text c.change-item.is))
