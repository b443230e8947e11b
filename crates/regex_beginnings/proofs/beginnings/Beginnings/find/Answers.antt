use Rattle.std.proofs.Common.{◌∙◌}
use Rattle.regex_beginnings.proofs.AnswersFollow.{first_match, no_match, from_none, from_some}
use Rattle.regex_beginnings.proofs.beginnings.Beginnings.find.Goals as goal

pub returns-in-Some : goal.returns-in-Some
returns-in-Some c =
    first_match c.in-Some.known.now.regex _ _ _ _ c.in-Some.known.now.by_default c.in_ok-find.ensures c.in-Some.ensures
    (c.as_str.ensures.value ∙ c.in_ok-text.ensures)

pub returns-in-Some-2 : goal.returns-in-Some-2
returns-in-Some-2 c =
    first_match c.in-Some-2.compiled.regex _ _ _ _ c.in-Some-2.compiled.by_default c.in_ok-find-in-Some-2.ensures
    (from_some _ _ _ _ c.in_ok-compiled.ensures c.in-Some-2.is) (c.as_str-2.ensures.value ∙ c.in_ok-text.ensures)

pub returns : goal.returns
returns c =
    no_match _ _ _ (from_none _ _ _ c.in_ok-compiled.ensures c.in-None.is) (c.as_str-2.ensures.value ∙ c.in_ok-text.ensures)
