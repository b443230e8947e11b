use Rattle.std.proofs.Common.{◌++◌, [], ◌∷◌, sym, ap, ◌∙◌, arith}
use Rattle.std.proofs.lemmas.Result.{on_ok_weaker}
use Rattle.json.specs.Token.{Token}
use Rattle.groklog_answers.proofs.NumeralsAreJson.{numeral_is_decimal}
use Rattle.groklog_answers.proofs.object.write_decimal.Goals as goal

pub returns-clause-value : goal.returns-clause-value
returns-clause-value c =
    on_ok_weaker c.u64.result
    (λ e. e ∙ ap (λ digits. c.args.writer.now.tokens ++ Token.number digits ∷ []) (sym (numeral_is_decimal c.args.number (omega arith))))
    c.u64.ensures.ok
