-- Between the positions none of the fields so far starts or ends.
use Rattle.std.proofs.Common.{◌≡◌, ℕ, ◌≤◌, ◌<◌, map, take}
use Rattle.marked_lines.specs.Runs.{has_byte}
use Rattle.marked_lines.proofs.runs.next_bound.Given as goal

abbrev pub invariant-fields : goal.invariant-fields
invariant-fields l = (p : ℕ) → l.at ≤ p → p < l.bound
    → map (has_byte p) (take l.field-index l.fields) ≡ map (has_byte l.at) (take l.field-index l.fields)
