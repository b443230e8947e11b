-- The runs so far were appended.
use Rattle.std.proofs.Common.{◌≡◌, ◌++◌, take, flat_map, string_bytes}
use Rattle.marked_lines.specs.Coloured.{coloured_run}
use Rattle.marked_lines.proofs.coloured.push_coloured.Given as goal

abbrev pub invariant-runs : goal.invariant-runs
invariant-runs l = string_bytes l.text ≡ string_bytes l.initial.text ++ flat_map coloured_run (take l.run-index l.runs)
