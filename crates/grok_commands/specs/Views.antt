-- What contracts see of a command.
use Rattle.grok_commands.specs.declared.command.Request.{Request}
use Rattle.grok_commands.specs.declared.command.Command.{Command}
use Rattle.grok_commands.specs.declared.command.Command.TheVariants as rust
use Rattle.grok_commands.specs.Commands.{RequestValue, CommandValue, Split, Measure, Match, Json, Check}

-- what contracts see of a request
abbrev pub request_view : Request → RequestValue
request_view r =
    record { alias_only = r.alias_only; pattern = r.pattern.now; definitions = r.definitions }

-- what contracts see of a command
abbrev pub command_view : Command → CommandValue
command_view (rust.Split pattern) = Split pattern.now
command_view (rust.Measure request) = Measure (request_view request)
command_view (rust.Match request) = Match (request_view request)
command_view (rust.Json request) = Json (request_view request)
command_view (rust.Check alias_only definitions) = Check alias_only definitions
