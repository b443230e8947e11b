-- What contracts see of the events of a tree.
use Rattle.grok.specs.Tree as tree
use Rattle.grok.specs.Items.{fault_view, label_view, meaning_view}
use Rattle.grok.specs.declared.expand.events.Event.{Event}
use Rattle.grok.specs.declared.expand.events.Event.TheVariants as event

-- what contracts see of one event
abbrev pub event_view : Event → tree.Event
event_view (event.Text text) = tree.Text text.now
event_view (event.Open label meaning) = tree.Open (label_view label) (meaning_view meaning)
event_view event.Close = tree.Close
event_view (event.Fault fault) = tree.FaultEvent (fault_view fault)
