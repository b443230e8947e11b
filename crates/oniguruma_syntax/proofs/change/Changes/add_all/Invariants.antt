use Rattle.std.proofs.Common.{take}
use Rattle.oniguruma_syntax.specs.Changes.{HasCopies}
use Rattle.oniguruma_syntax.proofs.change.Changes.add_all.Given as goal

abbrev pub invariant-loop-change : goal.invariant-loop-change
invariant-loop-change l = HasCopies l.fn.self.recorded.items (take l.change-index l.changes) l.self.recorded.items
