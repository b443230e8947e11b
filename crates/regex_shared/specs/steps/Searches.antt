-- What a search is built from, and how cells hold the spans of groups.
use Rattle.std.specs.Prelude.{◌≡◌, ℕ, ◌-◌, ◌*◌, ◌==◌, List, Option, Some, None, slice_index, if◌then◌else◌, MatchOption}
use Rattle.regex_hir.specs.declared.hir.Hir.{Hir}
use Rattle.regex_meta.specs.Located.{EndsAt}
use Rattle.regex_meta.specs.Programs.{pattern_of, leftmost}
use Rattle.regex_meta.specs.declared.program.Program.{Program}
use Rattle.regex_syntax.specs.Grammar.{Names}
use Rattle.regex_syntax.specs.Verdict.{Reads, default_config}

-- `hir` is the syntax tree of `regex` that its grammar reads in the text, without flags or limits
abbrev pub IsTreeOf : List ℕ → Hir → Type 0
IsTreeOf text hir = (names : Names) × Reads default_config text hir names

-- The span in two cells, its start plus one and its end plus one. If one of them is 0, there is no span.
abbrev pub span_of_pair : ℕ → ℕ → Option (ℕ × ℕ)
span_of_pair first last = if first == 0 then None
    else (if last == 0 then None else Some (first - 1, last - 1))

-- The span of a group of a match. `whole` is the range of the match, which is that of group 0, and `cells` has two
-- cells for each group from group 1 on.
abbrev pub span_of_cells : ℕ × ℕ → List ℕ → ℕ → Option (ℕ × ℕ)
span_of_cells whole cells group =
    if group == 0 then Some whole
    else span_of_pair (slice_index cells (2 * group - 2)) (slice_index cells (2 * group - 1))

-- `found` is where the first match ends. If it is `None`, there is no match.
abbrev pub IsFirstEnd : Program → List ℕ → Option ℕ → Type 0
IsFirstEnd program hay found =
    MatchOption found (leftmost program hay 0 ≡ None) (EndsAt (pattern_of program) hay 0 0)

-- both programs search for the same pattern, by the same automaton
abbrev pub IsSameSearch : Program → Program → Type 0
IsSameSearch p q = (p.hir ≡ q.hir) × (p.dfa ≡ q.dfa)
