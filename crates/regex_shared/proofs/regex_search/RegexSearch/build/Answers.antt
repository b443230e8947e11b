use Rattle.std.proofs.Common.{string_bytes, subst, sym}
use Rattle.regex_meta.specs.declared.program.Program.{Program}
use Rattle.regex_shared.specs.steps.Searches.{IsTreeOf}
use Rattle.regex_shared.proofs.regex_search.RegexSearch.build.Goals as goal

pub invariant_of-result-clause-read : goal.invariant_of-result-clause-read
invariant_of-result-clause-read c =
    subst (λ (p : Program). ∥ IsTreeOf (string_bytes c.in_ok-source.source) p.hir ∥₁) (sym c.in_ok-searcher.ensures)
    (rw (← c.in_ok-source.ensures.ok) at c.in_ok-program.ensures)
