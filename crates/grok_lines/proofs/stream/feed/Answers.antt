use Rattle.std.proofs.Common.{◌++◌, sym, ◌∙◌}
use Rattle.std.proofs.lemmas.Result.{err_from_is_err_and}
use Rattle.std.specs.Io.KnownBytes.{append_known}
use Rattle.grok_lines.proofs.HeldBytesAreKept.{held_more}
use Rattle.grok_lines.specs.Lines.{IsLine, ended_lines_of}
use Rattle.grok_lines.proofs.LinesOfTwoParts.{line-append}
use Rattle.grok_lines.proofs.LineLaws.{no_line_holds_a_line_feed}
use Rattle.grok_lines.proofs.AnswersHaveGoneOut.{fed_start, fed_first, fed_end, fed_end_next, fed_whole, fed_whole_next, fed_begun, begun_whole}
use Rattle.grok_lines.proofs.InputsAreEnded.{if_write_failed}
use Rattle.grok_lines.proofs.stream.feed.Goals as goal

pub returns-in_default-clause-ok : goal.returns-in_default-clause-ok
returns-in_default-clause-ok g c =
    let f = c.args.handler.now in
    let all = c.args.partial_line.now.items ++ c.args.block.now in
    (fed_end g.H.LineHandler.answers g.H.LineHandler.first_answers g.H.LineHandler.is_next f f _ _ all all (fed_start g.H.LineHandler.answers g.H.LineHandler.first_answers g.H.LineHandler.is_next g.met.H.LineHandler.none_first f (append_known (g.W.Write.contents c.args.output.now) c.args.held.now.items) all) (line-append c.args.partial_line.now.items c.args.block.now c.requires c.in_default.ensures)).0

pub returns-in_default-clause-partial_line : goal.returns-in_default-clause-partial_line
returns-in_default-clause-partial_line g c =
    let f = c.args.handler.now in
    let all = c.args.partial_line.now.items ++ c.args.block.now in
    c.in_ok-extend_from_slice.ensures.items
    ∙ (fed_end g.H.LineHandler.answers g.H.LineHandler.first_answers g.H.LineHandler.is_next f f _ _ all all (fed_start g.H.LineHandler.answers g.H.LineHandler.first_answers g.H.LineHandler.is_next g.met.H.LineHandler.none_first f (append_known (g.W.Write.contents c.args.output.now) c.args.held.now.items) all) (line-append c.args.partial_line.now.items c.args.block.now c.requires c.in_default.ensures)).1

pub returns-in_default-clause-is_line : goal.returns-in_default-clause-is_line
returns-in_default-clause-is_line g c =
    rw c.in_ok-extend_from_slice.ensures.items (line-append c.args.partial_line.now.items c.args.block.now c.requires c.in_default.ensures)

pub returns-in_default-clause-next : goal.returns-in_default-clause-next
returns-in_default-clause-next g c =
    let f = c.args.handler.now in
    let all = c.args.partial_line.now.items ++ c.args.block.now in
    fed_end_next g.H.LineHandler.answers g.H.LineHandler.first_answers g.H.LineHandler.is_next f f _ _ all all (fed_start g.H.LineHandler.answers g.H.LineHandler.first_answers g.H.LineHandler.is_next g.met.H.LineHandler.none_first f (append_known (g.W.Write.contents c.args.output.now) c.args.held.now.items) all) (line-append c.args.partial_line.now.items c.args.block.now c.requires c.in_default.ensures)

pub returns-in_err-answer_ended-clause-memory : goal.returns-in_err-answer_ended-clause-memory
returns-in_err-answer_ended-clause-memory g c = λ h.
    let f = c.args.handler.now in
    let old = append_known (g.W.Write.contents c.args.output.now) c.args.held.now.items in
    let now = append_known (g.W.Write.contents c.args.output.now) c.handle_line.new.text.items in
    let p = err_from_is_err_and c.from_residual-in_err-answer_ended.result c.from_residual-in_err-answer_ended.ensures.1 in
    let sent = held_more (g.W.Write.contents c.args.output.now) c.args.held.now.items c.handle_line.new.text.items _ (rw (c.deref.ensures.value, c.in_ok-extend_from_slice-2.ensures.items) at c.in_ok-handle_line.ensures.ok) in
    let by = c.handle_line.new.self in
    let next = rw (c.deref.ensures.value, c.in_ok-extend_from_slice-2.ensures.items) at c.in_ok-handle_line.ensures.next in
    let fed = fed_first g.H.LineHandler.answers g.H.LineHandler.first_answers g.H.LineHandler.is_next g.met.H.LineHandler.none_first f by old now c.args.partial_line.now.items c.args.block.now c.in-Some.line.now c.in-Some.after.now c.requires c.in-Some.ensures.0 c.in-Some.ensures.1 sent next in
    let begun = rw c.split_ended.ensures.ended at (c.in_err-answer_ended.ensures.memory (rw (← p.2) (sym p.1 ∙ h))) in
    fed_begun g.H.LineHandler.answers g.H.LineHandler.first_answers g.H.LineHandler.is_next f by old now (append_known (g.W.Write.contents c.answer_ended.new.output) c.answer_ended.new.held.items) (c.args.partial_line.now.items ++ c.args.block.now) c.in-Some.after.now fed begun

pub returns-clause-ok : goal.returns-clause-ok
returns-clause-ok g c =
    let f = c.args.handler.now in
    let old = append_known (g.W.Write.contents c.args.output.now) c.args.held.now.items in
    let now = append_known (g.W.Write.contents c.args.output.now) c.handle_line.new.text.items in
    let sent = held_more (g.W.Write.contents c.args.output.now) c.args.held.now.items c.handle_line.new.text.items _ (rw (c.deref.ensures.value, c.in_ok-extend_from_slice-2.ensures.items) at c.in_ok-handle_line.ensures.ok) in
    let by = c.handle_line.new.self in
    let next = rw (c.deref.ensures.value, c.in_ok-extend_from_slice-2.ensures.items) at c.in_ok-handle_line.ensures.next in
    let fed = fed_first g.H.LineHandler.answers g.H.LineHandler.first_answers g.H.LineHandler.is_next g.met.H.LineHandler.none_first f by old now c.args.partial_line.now.items c.args.block.now c.in-Some.line.now c.in-Some.after.now c.requires c.in-Some.ensures.0 c.in-Some.ensures.1 sent next in
    let others = rw c.split_ended.ensures.ended at c.in_ok-answer_ended.ensures.ok in
    fed_whole g.H.LineHandler.answers g.H.LineHandler.first_answers g.H.LineHandler.is_next f by old now (append_known (g.W.Write.contents c.answer_ended.new.output) c.answer_ended.new.held.items) (c.args.partial_line.now.items ++ c.args.block.now) c.in-Some.after.now fed others

pub returns-clause-next : goal.returns-clause-next
returns-clause-next g c =
    let f = c.args.handler.now in
    let old = append_known (g.W.Write.contents c.args.output.now) c.args.held.now.items in
    let now = append_known (g.W.Write.contents c.args.output.now) c.handle_line.new.text.items in
    let sent = held_more (g.W.Write.contents c.args.output.now) c.args.held.now.items c.handle_line.new.text.items _ (rw (c.deref.ensures.value, c.in_ok-extend_from_slice-2.ensures.items) at c.in_ok-handle_line.ensures.ok) in
    let by = c.handle_line.new.self in
    let next = rw (c.deref.ensures.value, c.in_ok-extend_from_slice-2.ensures.items) at c.in_ok-handle_line.ensures.next in
    let fed = fed_first g.H.LineHandler.answers g.H.LineHandler.first_answers g.H.LineHandler.is_next g.met.H.LineHandler.none_first f by old now c.args.partial_line.now.items c.args.block.now c.in-Some.line.now c.in-Some.after.now c.requires c.in-Some.ensures.0 c.in-Some.ensures.1 sent next in
    let then = c.answer_ended.new.handler in
    fed_whole_next g.H.LineHandler.answers g.H.LineHandler.first_answers g.H.LineHandler.is_next f by then old now (c.args.partial_line.now.items ++ c.args.block.now) c.in-Some.after.now fed (rw c.split_ended.ensures.ended at c.in_ok-answer_ended.ensures.next)

pub returns-in_err-extend_from_slice-3-clause-memory : goal.returns-in_err-extend_from_slice-3-clause-memory
returns-in_err-extend_from_slice-3-clause-memory g c = λ h.
    let f = c.args.handler.now in
    let old = append_known (g.W.Write.contents c.args.output.now) c.args.held.now.items in
    let now = append_known (g.W.Write.contents c.args.output.now) c.handle_line.new.text.items in
    let new = append_known (g.W.Write.contents c.answer_ended.new.output) c.answer_ended.new.held.items in
    let all = c.args.partial_line.now.items ++ c.args.block.now in
    let sent = held_more (g.W.Write.contents c.args.output.now) c.args.held.now.items c.handle_line.new.text.items _ (rw (c.deref.ensures.value, c.in_ok-extend_from_slice-2.ensures.items) at c.in_ok-handle_line.ensures.ok) in
    let by = c.handle_line.new.self in
    let next = rw (c.deref.ensures.value, c.in_ok-extend_from_slice-2.ensures.items) at c.in_ok-handle_line.ensures.next in
    let fed = fed_first g.H.LineHandler.answers g.H.LineHandler.first_answers g.H.LineHandler.is_next g.met.H.LineHandler.none_first f by old now c.args.partial_line.now.items c.args.block.now c.in-Some.line.now c.in-Some.after.now c.requires c.in-Some.ensures.0 c.in-Some.ensures.1 sent next in
    let others = rw c.split_ended.ensures.ended at c.in_ok-answer_ended.ensures.ok in
    begun_whole (g.H.LineHandler.first_answers f) old new (ended_lines_of all) (fed_whole g.H.LineHandler.answers g.H.LineHandler.first_answers g.H.LineHandler.is_next f by old now new all c.in-Some.after.now fed others)

pub returns-clause-partial_line : goal.returns-clause-partial_line
returns-clause-partial_line g c =
    let f = c.args.handler.now in
    let sent = held_more (g.W.Write.contents c.args.output.now) c.args.held.now.items c.handle_line.new.text.items _ (rw (c.deref.ensures.value, c.in_ok-extend_from_slice-2.ensures.items) at c.in_ok-handle_line.ensures.ok) in
    let by = c.handle_line.new.self in
    let next = rw (c.deref.ensures.value, c.in_ok-extend_from_slice-2.ensures.items) at c.in_ok-handle_line.ensures.next in
    let fed = fed_first g.H.LineHandler.answers g.H.LineHandler.first_answers g.H.LineHandler.is_next g.met.H.LineHandler.none_first f by (append_known (g.W.Write.contents c.args.output.now) c.args.held.now.items) (append_known (g.W.Write.contents c.args.output.now) c.handle_line.new.text.items) c.args.partial_line.now.items c.args.block.now
    c.in-Some.line.now c.in-Some.after.now c.requires c.in-Some.ensures.0 c.in-Some.ensures.1 sent next in
    c.in_ok-extend_from_slice-3.ensures.items ∙ rw c.clear.ensures.items (c.split_ended.ensures.rest ∙ sym fed.unended)

pub returns-clause-is_line : goal.returns-clause-is_line
returns-clause-is_line g c =
    let rest : IsLine c.split_ended.result.1.now = rw c.split_ended.ensures.rest (no_line_holds_a_line_feed c.in-Some.after.now).1 in
    rw (c.in_ok-extend_from_slice-3.ensures.items, c.clear.ensures.items) rest

pub returns-in_err-answer_ended-clause-write : goal.returns-in_err-answer_ended-clause-write
returns-in_err-answer_ended-clause-write g c =
    let f = c.args.handler.now in
    let old = append_known (g.W.Write.contents c.args.output.now) c.args.held.now.items in
    let now = append_known (g.W.Write.contents c.args.output.now) c.handle_line.new.text.items in
    let p = err_from_is_err_and c.from_residual-in_err-answer_ended.result c.from_residual-in_err-answer_ended.ensures.1 in
    let sent = held_more (g.W.Write.contents c.args.output.now) c.args.held.now.items c.handle_line.new.text.items _ (rw (c.deref.ensures.value, c.in_ok-extend_from_slice-2.ensures.items) at c.in_ok-handle_line.ensures.ok) in
    let by = c.handle_line.new.self in
    let next = rw (c.deref.ensures.value, c.in_ok-extend_from_slice-2.ensures.items) at c.in_ok-handle_line.ensures.next in
    let fed = fed_first g.H.LineHandler.answers g.H.LineHandler.first_answers g.H.LineHandler.is_next g.met.H.LineHandler.none_first f by old now c.args.partial_line.now.items c.args.block.now c.in-Some.line.now c.in-Some.after.now c.requires c.in-Some.ensures.0 c.in-Some.ensures.1 sent next in
    if_write_failed c.from_residual-in_err-answer_ended.result p.0 _ _ p.1 p.2 (λ failed.
    let begun = c.in_err-answer_ended.ensures.write failed in
    (begun.0, fed_begun g.H.LineHandler.answers g.H.LineHandler.first_answers g.H.LineHandler.is_next f by old now (append_known (g.W.Write.contents c.answer_ended.new.output) begun.0) (c.args.partial_line.now.items ++ c.args.block.now) c.in-Some.after.now fed (rw c.split_ended.ensures.ended at begun.1)))
