use Rattle.std.proofs.Common.{◌<◌, ◌≤◌, ◌-◌, vec_len}
use Rattle.std.specs.Prelude.{All}
use Rattle.suggestions.proofs.proposals.propose.Given as goal

abbrev pub invariant-patterns : goal.invariant-patterns
invariant-patterns l = (vec_len l.proposals ≤ 3) × All (λ proposal. 0 < proposal.fit.lines) l.proposals.items

abbrev pub decreases-patterns : goal.decreases-patterns
decreases-patterns l = 3 - vec_len l.proposals
