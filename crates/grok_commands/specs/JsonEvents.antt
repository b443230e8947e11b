-- The events that pairs of texts send to a `Serializer`.
use Rattle.std.specs.Prelude.{ℕ, List, None}
use Rattle.serde.specs.Event.{Log, Logs, map_begins}
use Rattle.serde_json.specs.Events.{SendsMembers}
use Rattle.grok_commands.specs.JsonObjects.{members_of}

-- From the log `old` to the log `new`, the `Serializer` got the events of `object_of pairs`, except that the
-- first event doesn't say how many members there are.
abbrev pub SendsObject : List (List ℕ × List ℕ) → Log → Log → Type 0
SendsObject pairs old new =
    (first : Log) × Logs old first (map_begins None) × SendsMembers (members_of pairs) first new
