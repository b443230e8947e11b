use Rattle.std.proofs.Common.{◌≡◌, ◌⊎◌, inl, inr, IfErr, subst}
use Rattle.std.proofs.lemmas.Result.{on_ok_weaker}
use Rattle.grok_commands.specs.declared.fault.ToolFault.{ToolFault}
use Rattle.grok_commands.specs.declared.fault.ToolFault.TheVariants.{Memory, Read, Write}
use Rattle.grok_commands.proofs.matching.answer_input.Goals as goal

pub returns-clause-ok : goal.returns-clause-ok
returns-clause-ok g c =
    on_ok_weaker c.answer_by_pattern.result (λ said. (c.in_ok-pattern.pattern, c.in_ok-pattern.ensures.ok, said)) c.answer_by_pattern.ensures.ok

pub returns-clause-pattern : goal.returns-clause-pattern
returns-clause-pattern g c error is =
    let kind = subst (λ r. IfErr r (λ (fault : ToolFault). (fault ≡ Memory) ⊎ ((fault ≡ Read) ⊎ (fault ≡ Write)))) is c.answer_by_pattern.ensures.kind in
    elim kind [ inl memory ↦ cc | inr device ↦ elim device [ inl read ↦ cc | inr write ↦ cc ] ]

pub returns-clause-memory : goal.returns-clause-memory
returns-clause-memory g c h =
    elim (c.answer_by_pattern.ensures.memory h) [ inl kept ↦ inl kept | inr some ↦ inr (c.in_ok-pattern.pattern, c.in_ok-pattern.ensures.ok, some) ]

pub returns-clause-read : goal.returns-clause-read
returns-clause-read g c h =
    (c.in_ok-pattern.pattern, c.in_ok-pattern.ensures.ok, c.answer_by_pattern.ensures.read h)

pub returns-clause-write : goal.returns-clause-write
returns-clause-write g c h =
    (c.in_ok-pattern.pattern, c.in_ok-pattern.ensures.ok, c.answer_by_pattern.ensures.write h)
