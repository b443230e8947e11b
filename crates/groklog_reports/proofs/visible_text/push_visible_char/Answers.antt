-- One more character of the escape was appended, and one fewer is left.
use Rattle.groklog_reports.proofs.ShownTextHasNoRawCharacter.{pushed, moved}
use Rattle.groklog_reports.proofs.visible_text.push_visible_char.Goals as goal

pub loop-escaped-preserved : goal.loop-escaped-preserved
loop-escaped-preserved c = record {
  written = pushed _ _ _ _ _ c.in_ok-push.ensures.bytes c.loop-escaped.invariant.written;
  left = moved _ _ _ _ _ c.in-Some.ensures.steps.1.0 c.loop-escaped.invariant.left;
}
