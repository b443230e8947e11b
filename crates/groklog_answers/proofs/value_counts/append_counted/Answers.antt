-- The digits are those of the numeral.
use Rattle.std.proofs.Common.{◌++◌, [], ◌∷◌, sym, ap, ◌∙◌, arith}
use Rattle.std.proofs.lemmas.Result.{on_ok_weaker}
use Rattle.csv.specs.Writing.{default_writer, row_text}
use Rattle.groklog_answers.proofs.NumeralsAreJson.{numeral_is_decimal}
use Rattle.groklog_answers.proofs.value_counts.append_counted.Goals as goal

pub returns : goal.returns
returns c =
    let digits = c.as_bytes-2.ensures.value ∙ (c.format-digits.ensures.text ∙ sym (numeral_is_decimal c.args.count (omega arith))) in
    on_ok_weaker c.append_record.result
    (λ e. e ∙ (ap (λ value. c.args.text.now.items ++ row_text default_writer (value ∷ c.as_bytes-2.result.now ∷ [])) c.as_bytes.ensures.value
    ∙ ap (λ digits. c.args.text.now.items ++ row_text default_writer (c.args.value.now ∷ digits ∷ [])) digits))
    c.append_record.ensures
