-- A text without raw characters is appended as it is. In another one, one more character was read, and one fewer is left. At the
-- end none is left.
use Rattle.std.proofs.Common.{sym, ◌∙◌, rules}
use Rattle.groklog_reports.proofs.ShownTextHasNoRawCharacter.{shown_more, read_more, all_read, same}
use Rattle.groklog_reports.proofs.visible_text.push_visible.Goals as goal

pub loop-c-preserved : goal.loop-c-preserved
loop-c-preserved c = record {
  written = shown_more _ _ _ c.loop-c.yielded c.in-Some.c c.in_ok-push_visible_char.ensures c.loop-c.invariant.written;
  left = read_more c.loop-c.yielded _ _ _ c.in-Some.c c.in-Some.ensures.steps.0 c.loop-c.invariant.left;
}

pub returns : goal.returns
returns c = all_read _ c.loop-c.yielded _ _ _ c.utf8.text c.loop-c.invariant.left c.in-None.ensures.steps.0.0 c.loop-c.invariant.written

pub returns-then-not-has_raw : goal.returns-then-not-has_raw
returns-then-not-has_raw c =
    let plain = same c.args.text.now c.utf8.text (sym c.has_raw.ensures ∙ c.if-not-has_raw.true) in
    rw plain (search rules)
