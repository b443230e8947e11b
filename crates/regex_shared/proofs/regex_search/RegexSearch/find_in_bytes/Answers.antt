use Rattle.std.proofs.Common.{string_bytes, subst, sym}
use Rattle.regex_hir.specs.declared.hir.Hir.{Hir}
use Rattle.regex_shared.specs.steps.Searches.{IsTreeOf}
use Rattle.regex_shared.proofs.regex_search.RegexSearch.find_in_bytes.Goals as goal

pub invariant_of-self-clause-read : goal.invariant_of-self-clause-read
invariant_of-self-clause-read c =
    subst (λ (hir : Hir). ∥ IsTreeOf (string_bytes c.args.self.now.source) hir ∥₁) (sym c.find.ensures.same.0) c.args.self.now.read
