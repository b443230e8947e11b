use Rattle.std.proofs.Common.{ℕ, List, arith}
use Rattle.std.specs.Borrow.{Bor}
use Rattle.groklog_answers.proofs.PlansAreMade.{shared_end}
use Rattle.groklog_answers.proofs.plan.shared_len.Goals as goal

pub returns-in_default-clause-value : goal.returns-in_default-clause-value
returns-in_default-clause-value c =
    let none = shared_end (λ (n : Bor (List ℕ)). n.now) c.args.names.now c.args.others.now c.names.index c.in_default.ensures.lookup.3 in
    omega (arith, none, c.names.invariant.value)
