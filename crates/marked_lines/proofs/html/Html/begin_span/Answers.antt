-- The parts of the beginning were appended, one after the other.
use Rattle.std.proofs.Common.{ap, ◌∙◌, ◌++◌}
use Rattle.groklog_reports.specs.Visible.{visible}
use Rattle.marked_lines.specs.Html.{escaped}
use Rattle.marked_lines.proofs.HtmlShowsText.{five_pushed}
use Rattle.marked_lines.proofs.html.Html.begin_span.Goals as goal

pub returns : goal.returns
returns c = five_pushed _ _ _ _ _ _ _ _ _ _ _ c.in_ok-push_markup.ensures c.in_ok-push_class.ensures c.in_ok-push_markup-2.ensures
    (c.in_ok-push_text.ensures.escaped ∙ ap (λ t. c.push_markup-2.new.self ++ escaped (visible t)) c.title_at.ensures)
    c.in_ok-push_markup-3.ensures
