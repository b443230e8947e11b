use Rattle.std.proofs.Common.{None, sym, ◌∙◌, lit<}
use Rattle.std.proofs.lemmas.Str.Pattern.{strip_prefix_char}
use Rattle.groklog_answers.proofs.FirstBytes.{no_minus, sign_is_plus}
use Rattle.groklog_answers.proofs.values.split_sign.Goals as goal

pub returns-in-None-clause-sign : goal.returns-in-None-clause-sign
returns-in-None-clause-sign c = sym (no_minus c.args.text.now (strip_prefix_char 45 c.args.text.now None c.in-None.ensures.cases (lit< tt)))

pub returns-in-None-clause-rest : goal.returns-in-None-clause-rest
returns-in-None-clause-rest c =
    c.without_plus.ensures
    ∙ sym (sign_is_plus c.args.text.now (strip_prefix_char 45 c.args.text.now None c.in-None.ensures.cases (lit< tt)))
