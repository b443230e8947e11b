use Rattle.std.proofs.Common.{subst}
use Rattle.grok.proofs.why_refused.reason_for.Goals as goal

pub returns-in-Ok : goal.returns-in-Ok
returns-in-Ok g c = record {
  built = c.in-Ok._built;
  is = c.in-Ok.ensures.built;
}

pub returns : goal.returns
returns g c = subst (g.B.BuildFromText.refuses c.args.text.now) c.in_ok-reason.ensures c.in-Err.ensures.refused
