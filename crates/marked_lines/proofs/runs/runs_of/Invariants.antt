-- The runs have the bytes before `start`. Those from there to where the loop is have one key and aren't in a run yet.
use Rattle.std.proofs.Common.{◌≡◌, ℕ, ◌≤◌, ◌<◌, take}
use Rattle.std.specs.Str.{IsCharBoundary}
use Rattle.std.specs.Str.Iter.{char_indices_rest, char_indices_offset}
use Rattle.marked_lines.specs.Runs.{key_at, runs_text}
use Rattle.marked_lines.proofs.RunsOfLines.{IsKeyed, IsPlace}
use Rattle.marked_lines.proofs.runs.runs_of.Given as goal

abbrev pub invariant-chars : goal.invariant-chars
invariant-chars l = record {
  place : IsPlace l.line (char_indices_offset l.at-iterator) (char_indices_rest l.at-iterator);
  begins : IsCharBoundary l.line l.start;
  until : (p : ℕ) → l.start ≤ p → p < l.bound → key_at l.fields p ≡ l.key;
  order : l.start ≤ char_indices_offset l.at-iterator;
  text : runs_text l.runs.items ≡ take l.start l.line;
  keys : IsKeyed l.fields l.line l.runs.items l.key l.start (char_indices_offset l.at-iterator);
}
