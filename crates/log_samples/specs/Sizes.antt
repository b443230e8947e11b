-- How large the expanded text of a pattern is.
use Rattle.std.specs.Prelude.{ℕ, ◌≤◌, List, length, true}
use Rattle.grok.specs.Maps.{Texts}
use Rattle.grok.specs.Expanded.{expanded, groups}
use Rattle.grok.specs.Measured.{tree_of}

-- THE PATTERN IS SMALL ENOUGH: its expanded text has at most `most_bytes` bytes, and at most `most_groups` of its groups are those
-- of placeholders with an alias.
abbrev pub IsWithin : (most_bytes most_groups : ℕ) → Texts → List ℕ → Type 0
IsWithin most_bytes most_groups texts pattern =
    (length (expanded true (tree_of texts pattern)) ≤ most_bytes) × (groups true (tree_of texts pattern) ≤ most_groups)
