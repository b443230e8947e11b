-- The line of an object without members.
use Rattle.std.proofs.Common.{◌≡◌, [], ◌++◌, ap}
use Rattle.std.specs.Prelude.{codes}
use Rattle.json.specs.Print.{print_from}
use Rattle.groklog_answers.specs.AnsweredTexts.{AnsweredText}
use Rattle.groklog_answers.specs.Objects.{answer_members, object_text}
use Rattle.groklog_answers.specs.LogAnswers.{answer_text}
use Rattle.groklog_answers.specs.declared.layout.OutputFormat.{OutputFormat}
use Rattle.groklog_answers.specs.declared.layout.OutputFormat.TheVariants.{Json, Pairs, Csv}

pub empty_line : (format : OutputFormat) (line : AnsweredText) → format ≡ Json → answer_members line ≡ []
    → answer_text format line ≡ codes "{}\n"
unfolding print_from
empty_line Json line is none = ap (λ these. object_text these ++ codes "\n") none
empty_line Pairs line is none = cc
empty_line Csv line is none = cc
