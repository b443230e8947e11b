use Rattle.log_samples.proofs.CompiledIsWithin.{within}
use Rattle.log_samples.proofs.compiled.compile_valid.Goals as goal

-- what was compiled isn't too large
pub returns-in-Ok-clause-small : goal.returns-in-Ok-clause-small
returns-in-Ok-clause-small c = within c.args.library.now.limit c.args.library.now.grok c.args.text.now c.in-Ok.pattern c.in-Ok.ensures.pattern c.in-Ok.ensures.limit
