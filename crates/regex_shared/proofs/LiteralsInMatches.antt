-- A line without the literals of which each match contains one has no match.
use Rattle.std.proofs.Common.{◌≡◌, ℕ, ◌<◌, ◌+◌, List, length, Option, None, Some, IfSome, All, arith, subst, sym}
use Rattle.regex_hir.specs.Re.{Re}
use Rattle.regex_literal.specs.Find.{Nowhere, AnyOccursAt}
use Rattle.regex_extract.specs.Frames.{ContainsFramed}
use Rattle.regex_extract.specs.Needles.{ContainsNeedle}
use Rattle.regex_extract.specs.declared.frames.Frame.{Frame}
use Rattle.regex_meta.proofs.LeftmostLemmas.{find_none, attempt_fits, Matches-of_attempt}
use Rattle.regex_meta.proofs.ProgramLemmas.{refuted}
use Rattle.regex_meta.specs.declared.program.Program.{Program}
use Rattle.regex_meta.specs.Programs.{pattern_of, leftmost}

pub none_without_literal : (p : Program) (hay : List ℕ) (literals : List (List ℕ)) → All (λ b. b < 256) hay →
    ∥ ContainsNeedle (pattern_of p) literals ∥₁ → Nowhere (AnyOccursAt hay literals) 0 (length hay + 1) → leftmost p hay 0 ≡ None
none_without_literal p hay literals bytes contains nowhere =
    find_none (pattern_of p) hay 0 (λ i t low high e. refuted contains (λ it.
    let within = it hay bytes i t.end (Matches-of_attempt (pattern_of p) hay i t e) in
    let fits = attempt_fits (pattern_of p) hay i t high e in
    let low_end = within.2.high in
    nowhere within.1 (omega arith) (omega arith) (within.0, within.2.numbered, within.2.occurs)))

-- a search for literals that each match contains is one of literals that each match contains
pub contained : (re : Re) (found : Option (List (List ℕ))) (literals : List (List ℕ)) → ContainsNeedle re literals →
    IfSome found (λ built. built ≡ literals) → ∥ IfSome found (ContainsNeedle re) ∥₁
contained re None literals contains same = ∣ tt ∣₁
contained re (Some built) literals contains same = ∣ subst (ContainsNeedle re) (sym same) contains ∣₁

-- a match that contains a literal with these bytes around it contains the literal
pub contains_framed : (re : Re) (literals : List (List ℕ)) (frame : Option Frame) → ContainsFramed re literals frame →
    ContainsNeedle re literals
contains_framed re literals frame framed = λ hay bytes i j it.
    let found = framed hay bytes i j it in
    (found.0, found.1, found.2)
