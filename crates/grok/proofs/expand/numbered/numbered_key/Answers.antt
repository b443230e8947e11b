use Rattle.std.proofs.Common.{rules, ◌≡◌, sym, subst, List, ℕ, IfOk, arith}
use Rattle.std.specs.String.{string_bytes}
use Rattle.grok.proofs.Keys.OneMoreAssignedKey.{numbered_is}
use Rattle.grok.proofs.expand.numbered.numbered_key.Goals as goal

pub returns-else-count-eq0 : goal.returns-else-count-eq0
returns-else-count-eq0 c = subst (λ (bs : List ℕ). IfOk c.format.result (λ key. string_bytes key ≡ bs)) (sym (numbered_is c.args.base.now c.args.count (omega arith) (omega arith))) (search rules)
