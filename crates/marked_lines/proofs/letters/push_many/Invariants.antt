-- The letter was appended once for each turn.
use Rattle.std.proofs.Common.{◌≡◌, ◌++◌, replicate, string_bytes}
use Rattle.marked_lines.proofs.letters.push_many.Given as goal

abbrev pub invariant-letters : goal.invariant-letters
invariant-letters l = string_bytes l.row ≡ string_bytes l.initial.row ++ replicate l.counter l.letter
