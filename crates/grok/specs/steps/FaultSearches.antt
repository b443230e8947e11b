-- What the search for the first structural fault seeks.
use Rattle.std.specs.Prelude.{Bool, true, false}
use Rattle.grok.specs.Tree.{Fault, TooDeep, Item, TextItem, FaultItem, PlaceholderItem, Event, Text, Open, Close, FaultEvent}

-- whether the event is a structural fault
abbrev pub is_fault : Event → Bool
is_fault (Text text) = false
is_fault (Open label meaning) = false
is_fault Close = false
is_fault (FaultEvent fault) = true

-- the fault of the item itself, if it has one
abbrev pub fault_of_item : Item → Fault
fault_of_item (TextItem text) = TooDeep
fault_of_item (FaultItem fault) = fault
fault_of_item (PlaceholderItem label meaning) = TooDeep
