-- What is shown has no raw character, and a text without them is shown as it is.
use Rattle.std.proofs.Common.{◌∙◌, ◌++◌, ap}
use Rattle.groklog_reports.specs.Visible.{has_raw, visible}
use Rattle.groklog_reports.proofs.ShownTextHasNoRawCharacter.{safe, same}
use Rattle.groklog_reports.proofs.visible_text.visible.Goals as goal

pub returns-clause-safe : goal.returns-clause-safe
returns-clause-safe c = ap has_raw (c.in_ok-push_visible.ensures ∙ ap (λ t. t ++ visible c.args.text.now) c.new-shown.ensures.bytes) ∙ safe _ c.utf8.text

pub returns-clause-same : goal.returns-clause-same
returns-clause-same c = λ none. c.in_ok-push_visible.ensures ∙ (ap (λ t. t ++ visible c.args.text.now) c.new-shown.ensures.bytes ∙ same _ c.utf8.text none)
