use Rattle.std.proofs.Common.{None, sym, lit<}
use Rattle.std.proofs.lemmas.Str.Pattern.{strip_prefix_char}
use Rattle.groklog_answers.proofs.FirstBytes.{no_fraction}
use Rattle.groklog_answers.proofs.values.begins_with_fraction.Goals as goal

pub returns-in-None : goal.returns-in-None
returns-in-None c = sym (no_fraction c.args.text.now (strip_prefix_char 46 c.args.text.now None c.in-None.ensures.cases (lit< tt)))
