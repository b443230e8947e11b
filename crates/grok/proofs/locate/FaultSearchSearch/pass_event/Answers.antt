use Rattle.grok.specs.steps.Events.{event_view}
use Rattle.grok.proofs.Trees.FirstFaultIsLocated.{passes_event}
use Rattle.grok.proofs.locate.FaultSearchSearch.pass_event.Goals as goal

pub returns-clause-passed : goal.returns-clause-passed
returns-clause-passed c passed start before clean = passes_event (event_view c.args.event) c.is_fault.result c.is_fault.ensures passed before clean
