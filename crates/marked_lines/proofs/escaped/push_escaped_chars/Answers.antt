-- One more character was escaped.
use Rattle.marked_lines.proofs.HtmlShowsText.{escaped_more}
use Rattle.groklog_reports.proofs.ShownTextHasNoRawCharacter.{read_more}
use Rattle.marked_lines.proofs.escaped.push_escaped_chars.Goals as goal

pub chars-preserved : goal.chars-preserved
chars-preserved c = record {
  written = escaped_more c.chars.yielded c.in-Some.c _ _ _ c.in_ok-push_escaped_char.ensures c.chars.invariant.written;
  left = read_more c.chars.yielded _ _ _ c.in-Some.c c.in-Some.ensures.steps.0 c.chars.invariant.left;
}
