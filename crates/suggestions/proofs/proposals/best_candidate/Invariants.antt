use Rattle.std.proofs.Common.{◌<◌}
use Rattle.std.specs.Prelude.{IfSome}
use Rattle.suggestions.proofs.proposals.best_candidate.Given as goal

abbrev pub invariant-forms : goal.invariant-forms
invariant-forms l = IfSome l.best (λ candidate. 0 < candidate.fit.lines)
