-- A whole line is a slice of itself.
use Rattle.std.proofs.Common.{◌≡◌, ℕ, List, length, arith, slice_range, IsUtf8, sym}
use Rattle.std.proofs.lemmas.Grind.{common_steps}
use Rattle.std.proofs.lemmas.Str.{IsCharBoundary-start, IsCharBoundary-end}
use Rattle.grok.specs.Captures.{IsSliceOf}
use Rattle.grok.specs.Locations.{IsLocationIn, located_text}

all_of : (line : List ℕ) → line ≡ slice_range line 0 (length line)
all_of line = grind (arith, common_steps)

pub whole : (line : List ℕ) → IsSliceOf line line
whole line = (0, length line, omega arith, omega arith, all_of line)

pub whole_text : (line : List ℕ) → located_text line (0, length line) ≡ line
whole_text line = sym (all_of line)

pub whole_location : (line : List ℕ) → IsUtf8 line → IsLocationIn line (0, length line)
whole_location line utf8 = record { ordered = omega arith; begins = IsCharBoundary-start line utf8; ends = IsCharBoundary-end line }
