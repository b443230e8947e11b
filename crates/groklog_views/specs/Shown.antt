-- How lines are shown on a terminal.
use Rattle.std.specs.Prelude.{◌≡◌, ℕ, Bool, List, ◌∷◌, ◌++◌, if◌then◌else◌, codes, chars, flat_map}
use Rattle.groklog_reports.specs.Visible.{visible}
use Rattle.marked_lines.specs.Coloured.{coloured_run}
use Rattle.marked_lines.specs.Runs.{keyed_bytes, run_bytes}
use Rattle.marked_lines.specs.declared.runs.Field.{Field}
use Rattle.marked_lines.specs.declared.runs.Run.{Run}

-- A line that no pattern matches, as it is shown: as messages show it, and dimmed if there are colours. The codes for that are
-- an escape character and `[2m`, and one and `[0m` after it.
abbrev pub unmatched_shown : Bool → List ℕ → List ℕ
unmatched_shown is_coloured line = if is_coloured
    then 27 ∷ (codes "[2m" ++ (visible line ++ 27 ∷ codes "[0m\n"))
    else visible line ++ codes "\n"

-- A line with these fields as it is shown in colours: each of its bytes is in a run with the key that it has by the fields.
pub record IsColoured (line : List ℕ) (fields : List Field) (shown : List ℕ) : Type 0 where
  pub runs : List Run
  pub keys : flat_map run_bytes runs ≡ keyed_bytes fields 0 (chars line)
  pub text : shown ≡ flat_map coloured_run runs ++ codes "\n"
