use Rattle.std.proofs.Common.{refl}
use Rattle.grok.proofs.descend.pass_meaning.Goals as goal

pub pass_definition-requires : goal.pass_definition-requires
pass_definition-requires g c κs = ((refl, tt), (c.requires.few, (rw c.in-Stored.is at c.requires.ready, rw c.in-Stored.is at c.requires.is)))
