use Rattle.std.proofs.Common.{◌≡◌, ◌≤◌, ◌+◌, take, drop, length, IfSome, MatchOption, true, false, List, ℕ, [], ◌∷◌, ◌-◌, Bor, Option, Some, None, sym, ◌∙◌, arith}
use Rattle.std.specs.Io.KnownBytes.{Appends, append_known}
use Rattle.std.specs.Str.{is_utf8, IsUtf8, IsCharBoundary}
use Rattle.std.proofs.lemmas.Str.{IsUtf8-from_is_utf8, IsCharBoundary-start, IsCharBoundary-before_ascii, IsCharBoundary-after_ascii}
use Rattle.grok_lines.proofs.LineFeedsEndLines.{next_line, no_line}
use Rattle.grok_lines.proofs.AppendsAddUp.{appends_still}
use Rattle.grok_lines.proofs.HeldBytesAreKept.{held_more, held_begun}
use Rattle.grok_lines.proofs.AnswersHaveGoneOut.{fed_start, fed_step, fed_end, fed_end_next, fed_some}
use Rattle.std.proofs.lemmas.Result.{err_from_is_err_and}
use Rattle.grok_lines.proofs.InputsAreEnded.{if_write_failed}
use Rattle.grok_lines.proofs.stream.answer_ended.Goals.{in-Some-utf8+in_ok-handle_str-in-Some-utf8, in-None-utf8+in_ok-handle_line-in-None-utf8}
use Rattle.grok_lines.proofs.stream.answer_ended.Goals as goal

text_of_lines : (lines : List ℕ) (read : Option (Bor (List ℕ))) → MatchOption read (is_utf8 lines ≡ false) (λ text. (text.now ≡ lines) × (is_utf8 lines ≡ true))
    → IfSome read (λ text. (text.now ≡ lines) × IsUtf8 lines × IsCharBoundary lines 0)
text_of_lines lines (Some text) h = let is = IsUtf8-from_is_utf8 lines h.1 in (h.0, is, IsCharBoundary-start lines is)
text_of_lines lines None h = tt

pub lines-init : goal.lines-init
lines-init g c = record {
  fed = fed_start g.H.LineHandler.answers g.H.LineHandler.first_answers g.H.LineHandler.is_next g.met.H.LineHandler.none_first c.args.handler.now (append_known (g.W.Write.contents c.args.output.now) c.args.held.now.items) c.args.lines.now;
  feeds = c.into_iter-end-iterator.ensures.into_iter_gives ∙ c.memchr_iter-end-items.ensures.value;
  start = omega arith;
  utf8 = text_of_lines c.args.lines.now c.utf8_text-utf8.result c.utf8_text-utf8.ensures;
}

pub range-requires-clause-start_le_end : goal.range-requires-clause-start_le_end
range-requires-clause-start_le_end g c =
    (next_line c.args.lines.now c.lines.start c.in-Some.end c.next.new.self c.lines.invariant.start (sym c.lines.invariant.feeds ∙ c.in-Some.ensures.steps)).low

pub range-requires-clause-end_boundary : goal.range-requires-clause-end_boundary
range-requires-clause-end_boundary g c =
    let ends = next_line c.args.lines.now c.lines.start c.in-Some.end c.next.new.self c.lines.invariant.start (sym c.lines.invariant.feeds ∙ c.in-Some.ensures.steps) in
    let text = rw c.in-Some-utf8.is at c.lines.invariant.utf8 in
    rw text.0 (IsCharBoundary-before_ascii c.args.lines.now c.in-Some.end ends.high (omega (arith, ends.feed)))

pub slice_bounds-handle_line-count : goal.slice_bounds-handle_line-count
slice_bounds-handle_line-count g c =
    (next_line c.args.lines.now c.lines.start c.in-Some.end c.next.new.self c.lines.invariant.start (sym c.lines.invariant.feeds ∙ c.in-Some.ensures.steps)).low

pub slice_bounds-handle_line-start : goal.slice_bounds-handle_line-start
slice_bounds-handle_line-start g c =
    let ends = next_line c.args.lines.now c.lines.start c.in-Some.end c.next.new.self c.lines.invariant.start (sym c.lines.invariant.feeds ∙ c.in-Some.ensures.steps) in
    let low = ends.low in
    let high = ends.high in
    omega arith

pub slice_bounds-handle_line-end : goal.slice_bounds-handle_line-end
slice_bounds-handle_line-end g c =
    let ends = next_line c.args.lines.now c.lines.start c.in-Some.end c.next.new.self c.lines.invariant.start (sym c.lines.invariant.feeds ∙ c.in-Some.ensures.steps) in
    let low = ends.low in
    let high = ends.high in
    omega arith

pub lines-preserved : goal.lines-preserved
lines-preserved g c =
    let f = c.args.handler.now in
    let by = c.lines.handler in
    let old = append_known (g.W.Write.contents c.args.output.now) c.args.held.now.items in
    let now = append_known (g.W.Write.contents c.lines.output) c.lines.held.items in
    let new = append_known (g.W.Write.contents c.send_long.new.output) c.send_long.new.held.items in
    let lines = c.args.lines.now in
    let ends = next_line lines c.lines.start c.in-Some.end c.next.new.self c.lines.invariant.start (sym c.lines.invariant.feeds ∙ c.in-Some.ensures.steps) in
    let line = take (c.in-Some.end - c.lines.start) (drop c.lines.start lines) in
    let after : c.in-Some.end + 1 ≤ length lines = omega (arith, ends.high) in
    elim c.match-utf8.branch [
      | in-Some-utf8+in_ok-handle_str-in-Some-utf8 w ↦
          let text = rw w.in-Some-utf8.is at c.lines.invariant.utf8 in
          let more = rw (w.range.ensures.value, text.0) at w.in_ok-handle_str-in-Some-utf8.ensures.ok in
          let next = rw (w.range.ensures.value, text.0) at w.in_ok-handle_str-in-Some-utf8.ensures.next in
          let held = rw (← w.held-is) at (held_more (g.W.Write.contents c.lines.output) c.lines.held.items w.handle_str.new.text.items (g.H.LineHandler.first_answers by (line ∷ [])) more) in
          let sent : Appends now new (g.H.LineHandler.first_answers by (line ∷ [])) = appends_still now _ new (g.H.LineHandler.first_answers by (line ∷ [])) held c.in_ok-send_long.ensures.ok in
          record {
            fed = rw w.handler-is (fed_step g.H.LineHandler.answers g.H.LineHandler.first_answers g.H.LineHandler.is_next f by w.handle_str.new.self old now new lines [] (drop c.lines.start lines) line (drop (c.in-Some.end + 1) lines) c.lines.invariant.fed tt ends.line ends.cut sent next);
            feeds = ends.later;
            start = after;
            utf8 = rw w.in-Some-utf8.is (text.0, text.1, IsCharBoundary-after_ascii lines c.in-Some.end text.1 ends.high (omega (arith, ends.feed)));
          }
      | in-None-utf8+in_ok-handle_line-in-None-utf8 w ↦
          let more = w.in_ok-handle_line-in-None-utf8.ensures.ok in
          let held = rw (← w.held-is) at (held_more (g.W.Write.contents c.lines.output) c.lines.held.items w.handle_line.new.text.items (g.H.LineHandler.first_answers by (line ∷ [])) more) in
          let sent : Appends now new (g.H.LineHandler.first_answers by (line ∷ [])) = appends_still now _ new (g.H.LineHandler.first_answers by (line ∷ [])) held c.in_ok-send_long.ensures.ok in
          record {
            fed = rw w.handler-is (fed_step g.H.LineHandler.answers g.H.LineHandler.first_answers g.H.LineHandler.is_next f by w.handle_line.new.self old now new lines [] (drop c.lines.start lines) line (drop (c.in-Some.end + 1) lines) c.lines.invariant.fed tt ends.line ends.cut sent w.in_ok-handle_line-in-None-utf8.ensures.next);
            feeds = ends.later;
            start = after;
            utf8 = rw w.in-None-utf8.is tt;
          }
    ]

pub returns-clause-ok : goal.returns-clause-ok
returns-clause-ok g c =
    let none = no_line c.args.lines.now c.lines.start c.lines.invariant.start (sym c.lines.invariant.feeds ∙ c.in-None.ensures.steps.0) in
    (fed_end g.H.LineHandler.answers g.H.LineHandler.first_answers g.H.LineHandler.is_next c.args.handler.now _ _ _ _ (drop c.lines.start c.args.lines.now) c.lines.invariant.fed none).0

pub returns-clause-next : goal.returns-clause-next
returns-clause-next g c =
    let none = no_line c.args.lines.now c.lines.start c.lines.invariant.start (sym c.lines.invariant.feeds ∙ c.in-None.ensures.steps.0) in
    fed_end_next g.H.LineHandler.answers g.H.LineHandler.first_answers g.H.LineHandler.is_next c.args.handler.now _ _ _ _ (drop c.lines.start c.args.lines.now) c.lines.invariant.fed none

pub returns-in_err-send_long-clause-write : goal.returns-in_err-send_long-clause-write
returns-in_err-send_long-clause-write g c =
    let E = g.H.LineHandler.answers in
    let F = g.H.LineHandler.first_answers in
    let N = g.H.LineHandler.is_next in
    let f = c.args.handler.now in
    let by = c.lines.handler in
    let out = c.in_err-send_long.ensures.write in
    let old = append_known (g.W.Write.contents c.args.output.now) c.args.held.now.items in
    let now = append_known (g.W.Write.contents c.lines.output) c.lines.held.items in
    let new = append_known (g.W.Write.contents c.send_long.new.output) out.0 in
    let kept = held_begun (g.W.Write.contents c.lines.output) (g.W.Write.contents c.send_long.new.output) _ out.0 out.1 in
    let lines = c.args.lines.now in
    let ends = next_line lines c.lines.start c.in-Some.end c.next.new.self c.lines.invariant.start (sym c.lines.invariant.feeds ∙ c.in-Some.ensures.steps) in
    let line = take (c.in-Some.end - c.lines.start) (drop c.lines.start lines) in
    let after = drop (c.in-Some.end + 1) lines in
    let p = err_from_is_err_and c.from_residual-in_err-send_long.result c.from_residual-in_err-send_long.ensures.1 in
    if_write_failed c.from_residual-in_err-send_long.result p.0 _ _ p.1 p.2 (λ failed. elim c.match-utf8.branch [
      | in-Some-utf8+in_ok-handle_str-in-Some-utf8 w ↦
          let text = rw w.in-Some-utf8.is at c.lines.invariant.utf8 in
          let more = rw (w.range.ensures.value, text.0) at w.in_ok-handle_str-in-Some-utf8.ensures.ok in
          let next = rw (w.range.ensures.value, text.0) at w.in_ok-handle_str-in-Some-utf8.ensures.next in
          let held = rw (← w.held-is) at (held_more (g.W.Write.contents c.lines.output) c.lines.held.items w.handle_str.new.text.items (F by (line ∷ [])) more) in
          let sent : Appends now new (F by (line ∷ [])) = appends_still now _ new (F by (line ∷ [])) held kept in
          (out.0, fed_some E F N f w.handle_str.new.self old new lines after (fed_step E F N f by w.handle_str.new.self old now new lines [] (drop c.lines.start lines) line after c.lines.invariant.fed tt ends.line ends.cut sent next))
      | in-None-utf8+in_ok-handle_line-in-None-utf8 w ↦
          let more = w.in_ok-handle_line-in-None-utf8.ensures.ok in
          let held = rw (← w.held-is) at (held_more (g.W.Write.contents c.lines.output) c.lines.held.items w.handle_line.new.text.items (F by (line ∷ [])) more) in
          let sent : Appends now new (F by (line ∷ [])) = appends_still now _ new (F by (line ∷ [])) held kept in
          (out.0, fed_some E F N f w.handle_line.new.self old new lines after (fed_step E F N f by w.handle_line.new.self old now new lines [] (drop c.lines.start lines) line after c.lines.invariant.fed tt ends.line ends.cut sent w.in_ok-handle_line-in-None-utf8.ensures.next))
    ])
