use Rattle.grok_commands.proofs.CommandLaws.{commands_are_their_words}
use Rattle.grok_commands.proofs.laws.commands.Goals as goal

pub returns-clause-both : goal.returns-clause-both
returns-clause-both c = commands_are_their_words
