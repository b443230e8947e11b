use Rattle.std.proofs.Common.{◌≡◌, map, take, string_bytes}
use Rattle.grok_commands.specs.Commands.{texts}
use Rattle.grok_commands.proofs.check.texts_in.Given as goal

abbrev pub invariant-strings : goal.invariant-strings
invariant-strings l = texts l.all.items ≡ map string_bytes (take l.string-index l.strings)
