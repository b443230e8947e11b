use Rattle.serde.specs.Event.{Log}
use Rattle.serde_json.specs.Events.{SendsMembers}
use Rattle.grok_commands.specs.JsonObjects.{members_of}
use Rattle.grok_commands.proofs.json_object.MatchObjectSerialize.serialize.Given as goal

-- if the members that are left are sent from here on, then all members are sent from the start on
abbrev pub invariant-pairs : goal.invariant-pairs
invariant-pairs g l =
    (end : Log) → SendsMembers (members_of l.key-iterator) (g.S.Serializer.written l.out) end → SendsMembers (members_of l.initial.key-iterator) (g.S.Serializer.written l.initial.out) end
