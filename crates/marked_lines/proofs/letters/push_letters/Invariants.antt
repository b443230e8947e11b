-- The letters of the runs so far were appended.
use Rattle.std.proofs.Common.{◌≡◌, ◌++◌, take, flat_map, string_bytes}
use Rattle.marked_lines.specs.Letters.{run_letters}
use Rattle.marked_lines.proofs.letters.push_letters.Given as goal

abbrev pub invariant-runs : goal.invariant-runs
invariant-runs l = string_bytes l.row ≡ string_bytes l.initial.row ++ flat_map run_letters (take l.run-index l.runs)
