use Rattle.std.proofs.Common.{Ok}
use Rattle.grok.proofs.Sizes.KnownResultsAreRight.{known_is}
use Rattle.grok.proofs.measure.measurer.Measurer.remembered_size.Goals as goal

pub returns-in-Some-Ok : goal.returns-in-Some-Ok
returns-in-Some-Ok c text correct stored =
    let known = rw (c.in-Some-Ok.is, c.in-Some-Ok.field-0-is) at c.known.ensures.known in
    known_is c.args.self.now.settings.grok.now c.args.self.now.settings.with_alias_only c.args.name.now text c.args.levels (Ok c.in-Some-Ok.size) correct.st correct.is_true stored
    (known correct.st correct.shows)
