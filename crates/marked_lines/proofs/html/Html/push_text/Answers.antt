-- The laws about escaped texts hold whatever the outcome is.
use Rattle.groklog_reports.specs.Visible.{visible}
use Rattle.marked_lines.proofs.HtmlShowsText.{text_seen, no_markup}
use Rattle.marked_lines.proofs.html.Html.push_text.Goals as goal

pub returns-clause-text : goal.returns-clause-text
returns-clause-text c = text_seen _

pub returns-clause-safe : goal.returns-clause-safe
returns-clause-safe c = no_markup (visible c.args.text.now)
