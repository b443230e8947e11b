-- The law about what is seen holds whatever the outcome is.
use Rattle.marked_lines.proofs.HtmlShowsText.{runs_seen}
use Rattle.marked_lines.proofs.html.Html.push_runs.Goals as goal

pub returns-in_err-push_run-clause-text : goal.returns-in_err-push_run-clause-text
returns-in_err-push_run-clause-text c = runs_seen _ _

pub returns-clause-text : goal.returns-clause-text
returns-clause-text c = runs_seen _ _
