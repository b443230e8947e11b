use Rattle.std.proofs.Common.{sym, ◌∙◌}
use Rattle.std.specs.Str.{bytes_eq}
use Rattle.groklog_answers.proofs.ChosenKeys.{any_of_names}
use Rattle.groklog_answers.proofs.layout.Layout.chooses.Goals as goal

pub returns-in-Some : goal.returns-in-Some
returns-in-Some c =
    rw c.in-Some.is (c.contains.ensures.value ∙ sym (any_of_names (λ name. bytes_eq name c.args.key.now) (λ name. name.now) c.in-Some.fields.now))
