-- What `measure_counted` returns: the result of measuring a pattern, and how much was read for it.
use Rattle.std.specs.Prelude.{◌≡◌, ℕ, ◌≤◌, Bool, List}
use Rattle.grok.specs.declared.measure.Measure.{Measure}
use Rattle.grok.specs.declared.measure.Looks.{Looks}
use Rattle.grok.specs.Maps.{Texts}
use Rattle.grok.specs.Measured.{tree_of, IsClean, measured_tree, saturated, reached_pieces, reached_texts, pieces_to_fault, measure_view}

-- THE RESULT of measuring a pattern with these definitions, and how many pieces and ends of texts were read for
-- it. No text is read twice. The pieces of the pattern itself are read up to the first fault, and a pattern without a fault
-- is read to its end.
pub record IsCountedMeasure (texts : Texts) (alias_only : Bool) (pattern : List ℕ) (measure : Measure)
    (looks : Looks) : Type 0 where
  pub answer : measure_view measure ≡ measured_tree alias_only (tree_of texts pattern)
  pub pieces : looks.pieces ≤ saturated (reached_pieces texts pattern)
  pub ends : looks.ends ≤ saturated (reached_texts texts pattern)
  pub pieces_to_fault : saturated (pieces_to_fault texts pattern) ≤ looks.pieces
  pub all_pieces : IsClean (tree_of texts pattern) → looks.pieces ≡ saturated (reached_pieces texts pattern)
  pub all_ends : IsClean (tree_of texts pattern) → looks.ends ≡ saturated (reached_texts texts pattern)
