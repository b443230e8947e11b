-- How the pairs of a match are written.
use Rattle.std.specs.Prelude.{ℕ, List, ◌++◌, codes}

-- `KEY=VALUE` and a line feed
abbrev pub pair_line : List ℕ × List ℕ → List ℕ
pair_line pair = pair.0 ++ codes "=" ++ pair.1 ++ codes "\n"
