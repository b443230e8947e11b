-- The text is between the beginning and the end of its span.
use Rattle.std.proofs.Common.{ap, ◌∙◌, ◌++◌, sym, map, string_bytes}
use Rattle.groklog_reports.specs.Visible.{visible}
use Rattle.marked_lines.specs.Html.{escaped, marked_html}
use Rattle.marked_lines.proofs.HtmlShowsText.{three_pushed}
use Rattle.marked_lines.proofs.html.Html.push_run.Goals as goal

pub returns-in_ok-push_markup-in-Some : goal.returns-in_ok-push_markup-in-Some
returns-in_ok-push_markup-in-Some c = three_pushed _ _ _ _ _ _ _ c.in_ok-begin_span-in-Some.ensures
    (c.in_ok-push_text-in-Some.ensures.escaped ∙ ap (λ t. c.begin_span.new.self ++ escaped (visible t)) c.as_str-in-Some.ensures.value)
    c.in_ok-push_markup-in-Some.ensures
    ∙ ap (λ key. c.args.self.now ++ marked_html (map string_bytes c.args.titles.now) key (escaped (visible (string_bytes c.args.run.now.text)))) (sym c.in-Some.is)
