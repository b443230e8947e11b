use Rattle.std.proofs.Common.{subst, IfSome}
use Rattle.regex_extract.specs.Needles.{ContainsNeedle}
use Rattle.regex_meta.proofs.LeftmostLemmas.{are_bytes}
use Rattle.regex_meta.specs.Programs.{pattern_of}
use Rattle.regex_shared.proofs.LiteralsInMatches.{none_without_literal}
use Rattle.regex_shared.proofs.literals.lacks.Goals as goal

pub returns-in-Missing : goal.returns-in-Missing
returns-in-Missing c = λ is.
    let p = c.args.program.now in
    let contains = subst (λ o. ∥ IfSome o (ContainsNeedle (pattern_of p)) ∥₁) c.in-Some.is c.requires in
    none_without_literal p c.args.hay.now _ (are_bytes _ c.type_inv.hay) contains c.in-Missing.ensures.bounded
