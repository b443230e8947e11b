use Rattle.std.proofs.Common.{◌++◌, codes, flat_map, take}
use Rattle.std.specs.Fmt.{HasWritten, IsPlainFormatter}
use Rattle.groklog_reports.specs.Faults.{part_text}
use Rattle.groklog_reports.proofs.fault.write_parts.Given as goal

abbrev pub invariant-parts : goal.invariant-parts
invariant-parts g l =
    IsPlainFormatter l.initial.f → HasWritten g.W.Write.write_str_gives l.initial.f (flat_map (λ part. codes "  and in " ++ part_text part) (take l.part-index l.more)) l.f
