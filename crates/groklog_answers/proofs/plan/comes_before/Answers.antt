use Rattle.std.proofs.Common.{ℕ, List, sym}
use Rattle.std.specs.Borrow.{Bor}
use Rattle.groklog_answers.proofs.PlansAreMade.{both_first, no_first, no_other_first}
use Rattle.groklog_answers.proofs.plan.comes_before.Goals as goal

pub returns-in-Some-Some : goal.returns-in-Some-Some
returns-in-Some-Some c =
    let e = both_first (λ (n : Bor (List ℕ)). n.now) c.args.names.now c.args.others.now c.shared_len-shared.result
    c.in-Some-Some.name.now c.in-Some-Some.other.now c.shared_len-shared.ensures.value
    c.in-Some-Some.ensures.lookup.3.0 c.in-Some-Some.ensures'.lookup.3.0 c.in-Some-Some.ensures.lookup.1 c.in-Some-Some.ensures'.lookup.1 in
    cc (e, c.is_lt.ensures, c.cmp.ensures, c.as_bytes.ensures.value, c.as_bytes-in-Some-Some.ensures.value)

pub returns-in_default : goal.returns-in_default
returns-in_default c =
    sym (no_other_first (λ (n : Bor (List ℕ)). n.now) c.args.names.now c.args.others.now c.shared_len-shared.result
    c.shared_len-shared.ensures.value c.in_default.ensures'.lookup.3)

pub returns-in_default-2 : goal.returns-in_default-2
returns-in_default-2 c =
    sym (no_first (λ (n : Bor (List ℕ)). n.now) c.args.names.now c.args.others.now c.shared_len-shared.result
    c.shared_len-shared.ensures.value c.in_default.ensures.lookup.3)
