use Rattle.std.proofs.Common.{◌∙◌}
use Rattle.regex_beginnings.proofs.AnswersFollow.{decided, refused, from_none, from_some}
use Rattle.regex_beginnings.proofs.beginnings.Beginnings.finds.Goals as goal

pub returns-in-Some-clause-answer : goal.returns-in-Some-clause-answer
returns-in-Some-clause-answer c =
    decided _ _ _ _ c.in_ok-is_found.ensures (c.in-Some.ensures ∙ (c.as_str.ensures.value ∙ c.in_ok-text.ensures))

pub returns-in_default-2-clause-answer : goal.returns-in_default-2-clause-answer
returns-in_default-2-clause-answer c =
    refused _ _ _ (from_none _ _ _ c.in_ok-compiled.ensures c.in_default-2.is) (c.as_str-2.ensures.value ∙ c.in_ok-text.ensures)

pub returns-clause-answer : goal.returns-clause-answer
returns-clause-answer c =
    decided _ _ _ _ c.in_ok-finds.ensures
    (from_some _ _ _ _ c.in_ok-compiled.ensures c.in-Some-2.is ∙ (c.as_str-2.ensures.value ∙ c.in_ok-text.ensures))
