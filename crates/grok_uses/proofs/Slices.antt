-- A line is a slice of itself.
use Rattle.std.proofs.Common.{◌≡◌, ℕ, List, length, arith, slice_range}
use Rattle.std.proofs.lemmas.Grind.{common_steps}
use Rattle.grok.specs.{IsSliceOf}

all_of : (line : List ℕ) → line ≡ slice_range line 0 (length line)
all_of line = grind (arith, common_steps)

pub whole_line : (line : List ℕ) → IsSliceOf line line
whole_line line = (0, length line, omega arith, omega arith, all_of line)
