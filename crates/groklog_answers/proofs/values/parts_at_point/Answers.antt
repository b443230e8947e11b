use Rattle.groklog_answers.proofs.FractionsAreWhole.{parts_are_found}
use Rattle.groklog_answers.proofs.values.parts_at_point.Goals as goal

pub returns : goal.returns
returns c = parts_are_found c.args.text.now c.split_once.result c.split_once.ensures.cases
