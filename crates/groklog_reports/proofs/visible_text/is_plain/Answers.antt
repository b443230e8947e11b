-- The bytes are tried one after another.
use Rattle.std.proofs.Common.{◌∙◌, sym, rules, tests}
use Rattle.std.proofs.lemmas.Iterator.{YieldsList-from_slice}
use Rattle.std.proofs.lemmas.Iterator.Search.{all_from_yields_List}
use Rattle.groklog_reports.proofs.ShownTextHasNoRawCharacter.{is_printable, printing_is_plain}
use Rattle.groklog_reports.proofs.visible_text.is_plain.Goals as goal

pub returns : goal.returns
returns c = λ yes. printing_is_plain c.args.text.now c.utf8.text
    (sym (all_from_yields_List is_printable _ _ c.all.result c.all.ensures.ran
    (YieldsList-from_slice c.args.text.now (c.iter.ensures.rest ∙ c.as_bytes.ensures.value)) (λ x b q k. search (rules, tests))) ∙ yes)
