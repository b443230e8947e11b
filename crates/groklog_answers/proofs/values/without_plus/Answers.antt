use Rattle.std.proofs.Common.{None, sym, lit<}
use Rattle.std.proofs.lemmas.Str.Pattern.{strip_prefix_char}
use Rattle.groklog_answers.proofs.FirstBytes.{no_plus}
use Rattle.groklog_answers.proofs.values.without_plus.Goals as goal

pub returns-in_default : goal.returns-in_default
returns-in_default c = sym (no_plus c.args.text.now (strip_prefix_char 43 c.args.text.now None c.in_default.ensures.cases (lit< tt)))
