use Rattle.std.proofs.Common.{None, sym, ◌∙◌, lit<}
use Rattle.std.proofs.lemmas.Str.Pattern.{strip_prefix_char}
use Rattle.groklog_answers.proofs.FirstBytes.{no_zero}
use Rattle.groklog_answers.proofs.values.without_zeros.Goals as goal

pub returns-in_default : goal.returns-in_default
returns-in_default c =
    sym (no_zero c.zeros.rest.now (strip_prefix_char 48 c.zeros.rest.now None c.in_default.ensures.cases (lit< tt)))
    ∙ c.zeros.invariant.1
