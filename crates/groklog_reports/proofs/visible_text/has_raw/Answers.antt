-- The characters are tried one after another.
use Rattle.std.proofs.Common.{rules, tests}
use Rattle.std.proofs.lemmas.Iterator.{YieldsList-from_chars}
use Rattle.std.proofs.lemmas.Iterator.Search.{any_from_yields_List}
use Rattle.groklog_reports.specs.Visible.{is_raw}
use Rattle.groklog_reports.proofs.visible_text.has_raw.Goals as goal

pub returns : goal.returns
returns c = any_from_yields_List is_raw _ _ c.any.result c.any.ensures.ran
    (YieldsList-from_chars c.args.text.now c.utf8.text c.chars.ensures.rest) (λ x b q k. search (rules, tests))
