use Rattle.grok_commands.proofs.WordsAreCutAtEquals.{is_cut}
use Rattle.grok_commands.proofs.definitions.cut.Goals as goal

pub unwrap-requires : goal.unwrap-requires
unwrap-requires c = is_cut c.args.word.now c.split_once.result c.split_once.ensures.cases c.requires
