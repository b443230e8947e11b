use Rattle.std.proofs.Common.{◌≡◌, map, take, string_bytes}
use Rattle.grok_commands.specs.Commands.{texts}
use Rattle.grok_commands.specs.SizeTexts.{placeholder_of}
use Rattle.grok_commands.proofs.check.placeholders.Given as goal

abbrev pub invariant-names : goal.invariant-names
invariant-names l = map string_bytes l.patterns.items ≡ map placeholder_of (texts (take l.name-index l.names))
