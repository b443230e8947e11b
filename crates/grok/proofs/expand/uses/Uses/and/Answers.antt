use Rattle.grok.proofs.Keys.UsesOfKeys.{both_counted}
use Rattle.grok.proofs.expand.uses.Uses.and.Goals as goal

pub returns : goal.returns
returns c base keys others p q =
    rw (c.saturating_add.ensures, c.lesser.ensures) (both_counted base keys others c.args.self c.args.more p q)
