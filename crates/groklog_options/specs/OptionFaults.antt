-- The faults of options.
use Rattle.groklog_reports.specs.declared.fault.RunFault.{RunFault}
use Rattle.groklog_reports.specs.declared.fault.RunFault.TheVariants.{Pattern, Usage, Memory, Read, Write}

-- The `RunFault` is one of the options, or an allocation failed.
abbrev pub IsOptionFault : RunFault → Type 0
IsOptionFault (Pattern report) = ⊥
IsOptionFault (Usage report) = Unit {0}
IsOptionFault Memory = Unit {0}
IsOptionFault (Read report) = ⊥
IsOptionFault (Write report) = ⊥
