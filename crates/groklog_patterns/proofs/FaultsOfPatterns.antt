-- The fault that reports a refusal is that of a pattern that is refused.
use Rattle.std.proofs.Common.{◌≢◌, ◌⊎◌, inl, inr, refl}
use Rattle.groklog_definitions.specs.declared.compiled.CompileRefusal.{CompileRefusal}
use Rattle.groklog_definitions.specs.declared.compiled.CompileRefusal.TheVariants as refusals
use Rattle.groklog_definitions.specs.declared.compiled.CompileRefusal.TheVariants.{TooLarge, Invalid}
use Rattle.groklog_definitions.specs.Compiled.{IsRefusal}
use Rattle.groklog_reports.specs.declared.fault.RunFault.{RunFault}
use Rattle.groklog_reports.specs.declared.fault.RunFault.TheVariants.{Pattern, Usage, Memory, Read, Write}
use Rattle.groklog_patterns.specs.Compiled.{IsCompileFault}

one_of : (P Q : Type 0) → (refusal : CompileRefusal) → IsRefusal P Q refusal → refusal ≢ refusals.Memory → Q ⊎ P
one_of P Q TooLarge large other = inr large
one_of P Q Invalid refused other = inl refused
one_of P Q refusals.Memory is other = absurd (other refl)

pub fault_of_refusal : (P Q : Type 0) → (refusal : CompileRefusal) → (fault : RunFault) → IsRefusal P Q refusal
    → IsCompileFault (refusal ≢ refusals.Memory) fault → IsCompileFault (Q ⊎ P) fault
fault_of_refusal P Q refusal (Pattern report) is other = one_of P Q refusal is other
fault_of_refusal P Q refusal (Usage report) is other = other
fault_of_refusal P Q refusal Memory is other = other
fault_of_refusal P Q refusal (Read report) is other = other
fault_of_refusal P Q refusal (Write report) is other = other

-- What is reported of a fault follows from a stronger reason for it.
pub fault_if : (P Q : Type 0) → (P → Q) → (fault : RunFault) → IsCompileFault P fault → IsCompileFault Q fault
fault_if P Q so (Pattern report) is = so is
fault_if P Q so (Usage report) is = is
fault_if P Q so Memory is = is
fault_if P Q so (Read report) is = is
fault_if P Q so (Write report) is = is

pub ruleset faults = (fault_of_refusal)
