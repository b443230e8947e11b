use Rattle.std.proofs.Common.{Some, None, if◌then◌else◌, sym, ap, ◌∙◌, lit<}
use Rattle.std.proofs.lemmas.Str.Pattern.{strip_prefix_char, split_once_first}
use Rattle.groklog_answers.proofs.PlansAreMade.{no_first_name, no_closed_name, one_first_name}
use Rattle.groklog_answers.proofs.plan.first_name.Goals as goal

pub returns-in_default : goal.returns-in_default
returns-in_default c =
    no_first_name c.args.text.now (strip_prefix_char 91 c.args.text.now None c.in_default.ensures.cases (lit< tt))

pub returns-in_default-split_once : goal.returns-in_default-split_once
returns-in_default-split_once c =
    no_closed_name c.args.text.now c.in-Some.inside.now
    (strip_prefix_char 91 c.args.text.now (Some c.in-Some.inside) c.in-Some.ensures.cases (lit< tt))
    (split_once_first 93 c.in-Some.inside.now None c.in_default-split_once.ensures.cases (lit< tt))

pub returns-then-is_name : goal.returns-then-is_name
returns-then-is_name c =
    let name = c.in-Some-split_once.name.now in
    let rest = c.in-Some-split_once.rest.now in
    let parts = split_once_first 93 c.in-Some.inside.now (Some (c.in-Some-split_once.name, c.in-Some-split_once.rest)) c.in-Some-split_once.ensures.cases (lit< tt) in
    sym (one_first_name c.args.text.now c.in-Some.inside.now name rest
    (strip_prefix_char 91 c.args.text.now (Some c.in-Some.inside) c.in-Some.ensures.cases (lit< tt)) parts.0 parts.1 parts.2
    ∙ ap (λ is. if is then Some (name, rest) else None) (sym c.is_name.ensures ∙ c.if-is_name.true))
