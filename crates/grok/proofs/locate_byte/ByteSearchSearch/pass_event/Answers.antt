use Rattle.std.proofs.Common.{[], ◌∷◌}
use Rattle.grok.specs.steps.Events.{event_view}
use Rattle.grok.proofs.locate_byte.ByteSearchSearch.pass_event.Goals as goal

pub returns-clause-passed : goal.returns-clause-passed
returns-clause-passed c passed = c.pass_size.ensures.passed passed (event_view c.args.event ∷ []) c.size_of_event-size.ensures
