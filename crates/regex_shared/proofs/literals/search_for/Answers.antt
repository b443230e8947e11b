use Rattle.std.proofs.Common.{Some, subst, IfSome}
use Rattle.regex_extract.specs.Frames.{IsInner}
use Rattle.regex_extract.specs.Needles.{needles_of}
use Rattle.regex_meta.specs.Programs.{pattern_of}
use Rattle.regex_shared.proofs.LiteralsInMatches.{contained, contains_framed}
use Rattle.regex_shared.proofs.literals.search_for.Goals as goal

pub returns-in_ok-new-in-Some : goal.returns-in_ok-new-in-Some
returns-in_ok-new-in-Some c =
    let p = pattern_of c.args.program.now in
    let inner = subst (λ o. IfSome o (IsInner p)) c.in-Some.is c.requires in
    let needles = needles_of c.in-Some.field-0.found.needles in
    contained p c.in_ok-new-in-Some.field-0 needles (contains_framed p needles (Some c.in-Some.field-0.found.frame) inner.0)
    c.in_ok-new-in-Some.ensures.needles
