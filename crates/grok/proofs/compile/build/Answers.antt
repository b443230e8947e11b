use Rattle.std.proofs.Common.{Err, ap}
use Rattle.grok.proofs.Trees.StepsCompile.{unbuilt}
use Rattle.grok.proofs.compile.build.Goals as goal

pub returns-in-Err : goal.returns-in-Err
returns-in-Err g c =
    unbuilt g.E.Engine.may_refuse c.args.text.now c.in-Err.refusal _ (λ why. c.in-Err.ensures.refused (ap Err why)) c.in_ok-to_error-in-Err.ensures
