use Rattle.std.proofs.Common.{◌<◌, length, take, sym, ◌∙◌, arith}
use Rattle.std.proofs.lemmas.Result.{err_from_is_err_and}
use Rattle.std.specs.Io.KnownBytes.{append_known}
use Rattle.grok_lines.proofs.HeldBytesAreKept.{held_more, held_same, held_sent, held_begun}
use Rattle.grok_lines.proofs.AnswersHaveGoneOut.{streamed_end, streamed_last, streamed_sent, streamed_some, streamed_step, streamed_still, consumes_zero, nothing_yet, streamed_unread}
use Rattle.grok_lines.proofs.InputsAreEnded.{if_write_failed}
use Rattle.grok_lines.proofs.stream.answer_blocks.Goals.{in-Some+in_ok-feed-in-Some, in-None}
use Rattle.grok_lines.proofs.stream.answer_blocks.Goals as goal

pub returns-in-Some-eq0-clause-ok : goal.returns-in-Some-eq0-clause-ok
returns-in-Some-eq0-clause-ok g c =
    let keeps = held_sent (g.W.Write.contents c.reads.output) (g.W.Write.contents c.send_and_read.new.output) c.reads.held.items c.send_and_read.new.held.items
    (c.in_ok-send_and_read.ensures.sent) (c.in_ok-send_and_read.ensures.none_held) in
    let streamed = streamed_sent g.H.LineHandler.answers g.H.LineHandler.first_answers g.H.LineHandler.is_next c.args.handler.now c.reads.handler (g.R.Read.remaining c.args.input.now) (g.R.Read.remaining c.reads.input)
    (append_known (g.W.Write.contents c.args.output.now) c.args.held.now.items)
    (append_known (g.W.Write.contents c.reads.output) c.reads.held.items)
    (append_known (g.W.Write.contents c.send_and_read.new.output) c.send_and_read.new.held.items)
    c.reads.partial_line.items c.reads.invariant.streamed keeps in
    let none = consumes_zero (g.R.Read.remaining c.reads.input) (g.R.Read.remaining c.send_and_read.new.input) c.in-Some-eq0.field-0 c.send_and_read.new.block c.in-Some-eq0.field-0-test
    (rw c.in-Some-eq0.is at c.in_ok-send_and_read.ensures.bytes) in
    let room : 0 < length c.send_and_read.new.block = omega (arith, c.send_and_read.ensures.length, c.reads.invariant.room) in
    streamed_end g.H.LineHandler.answers g.H.LineHandler.first_answers g.H.LineHandler.is_next c.args.handler.now c.reads.handler c.answer_last.new.handler _ _ _ _ _ _ c.reads.partial_line.items streamed none
    ((rw c.in-Some-eq0.is at c.in_ok-send_and_read.ensures.end) c.in-Some-eq0.field-0-test room)
    (held_more (g.W.Write.contents c.send_and_read.new.output) c.send_and_read.new.held.items c.answer_last.new.held.items _
    (rw c.deref.ensures.value at c.in_ok-answer_last-in-Some-eq0.ensures.ok))
    (rw c.deref.ensures.value at c.in_ok-answer_last-in-Some-eq0.ensures.next)

pub returns-in_err-answer_last-in-Some-eq0-clause-memory : goal.returns-in_err-answer_last-in-Some-eq0-clause-memory
returns-in_err-answer_last-in-Some-eq0-clause-memory g c = λ h.
    let keeps = held_sent (g.W.Write.contents c.reads.output) (g.W.Write.contents c.send_and_read.new.output) c.reads.held.items c.send_and_read.new.held.items
    (c.in_ok-send_and_read.ensures.sent) (c.in_ok-send_and_read.ensures.none_held) in
    let streamed = streamed_sent g.H.LineHandler.answers g.H.LineHandler.first_answers g.H.LineHandler.is_next c.args.handler.now c.reads.handler (g.R.Read.remaining c.args.input.now) (g.R.Read.remaining c.reads.input)
    (append_known (g.W.Write.contents c.args.output.now) c.args.held.now.items)
    (append_known (g.W.Write.contents c.reads.output) c.reads.held.items)
    (append_known (g.W.Write.contents c.send_and_read.new.output) c.send_and_read.new.held.items)
    c.reads.partial_line.items c.reads.invariant.streamed keeps in
    let none = consumes_zero (g.R.Read.remaining c.reads.input) (g.R.Read.remaining c.send_and_read.new.input) c.in-Some-eq0.field-0 c.send_and_read.new.block c.in-Some-eq0.field-0-test
    (rw c.in-Some-eq0.is at c.in_ok-send_and_read.ensures.bytes) in
    streamed_last g.H.LineHandler.answers g.H.LineHandler.first_answers g.H.LineHandler.is_next c.args.handler.now c.reads.handler _ _ _ _ _ _ c.reads.partial_line.items streamed none
    (held_same (g.W.Write.contents c.send_and_read.new.output) c.send_and_read.new.held.items c.answer_last.new.held.items c.in_err-answer_last-in-Some-eq0.ensures.memory)

pub returns-in_err-feed-in-Some-clause-memory : goal.returns-in_err-feed-in-Some-clause-memory
returns-in_err-feed-in-Some-clause-memory g c = λ h.
    let keeps = held_sent (g.W.Write.contents c.reads.output) (g.W.Write.contents c.send_and_read.new.output) c.reads.held.items c.send_and_read.new.held.items
    (c.in_ok-send_and_read.ensures.sent) (c.in_ok-send_and_read.ensures.none_held) in
    let streamed = streamed_sent g.H.LineHandler.answers g.H.LineHandler.first_answers g.H.LineHandler.is_next c.args.handler.now c.reads.handler (g.R.Read.remaining c.args.input.now) (g.R.Read.remaining c.reads.input)
    (append_known (g.W.Write.contents c.args.output.now) c.args.held.now.items)
    (append_known (g.W.Write.contents c.reads.output) c.reads.held.items)
    (append_known (g.W.Write.contents c.send_and_read.new.output) c.send_and_read.new.held.items)
    c.reads.partial_line.items c.reads.invariant.streamed keeps in
    let p = err_from_is_err_and c.from_residual-in_err-feed-in-Some.result c.from_residual-in_err-feed-in-Some.ensures.1 in
    streamed_some g.H.LineHandler.answers g.H.LineHandler.first_answers g.H.LineHandler.is_next c.args.handler.now c.reads.handler _ _ _ _ _ _ c.reads.partial_line.items (take c.in-Some.n c.send_and_read.new.block) streamed
    (rw c.in-Some.is at c.in_ok-send_and_read.ensures.bytes)
    (c.in_err-feed-in-Some.ensures.memory (rw (← p.2) (sym p.1 ∙ h)))

pub reads-preserved : goal.reads-preserved
reads-preserved g c =
    let keeps = held_sent (g.W.Write.contents c.reads.output) (g.W.Write.contents c.send_and_read.new.output) c.reads.held.items c.send_and_read.new.held.items
    (c.in_ok-send_and_read.ensures.sent) (c.in_ok-send_and_read.ensures.none_held) in
    let streamed = streamed_sent g.H.LineHandler.answers g.H.LineHandler.first_answers g.H.LineHandler.is_next c.args.handler.now c.reads.handler (g.R.Read.remaining c.args.input.now) (g.R.Read.remaining c.reads.input)
    (append_known (g.W.Write.contents c.args.output.now) c.args.held.now.items)
    (append_known (g.W.Write.contents c.reads.output) c.reads.held.items)
    (append_known (g.W.Write.contents c.send_and_read.new.output) c.send_and_read.new.held.items)
    c.reads.partial_line.items c.reads.invariant.streamed keeps in
    let room : 0 < length c.send_and_read.new.block = omega (arith, c.send_and_read.ensures.length, c.reads.invariant.room) in
    elim c.match-branch-3.branch [
      | in-None w ↦ record {
        streamed = rw (w.handler-is, w.held-is, w.output-is, w.partial_line-is) (streamed_still g.H.LineHandler.answers g.H.LineHandler.first_answers g.H.LineHandler.is_next c.args.handler.now c.reads.handler _ _ _ _ _ c.reads.partial_line.items streamed
            (rw w.in-None.is at c.in_ok-send_and_read.ensures.interrupted));
        room = room;
      }
      | in-Some+in_ok-feed-in-Some w ↦ record {
        streamed = rw (w.handler-is, w.held-is, w.output-is, w.partial_line-is) (streamed_step g.H.LineHandler.answers g.H.LineHandler.first_answers g.H.LineHandler.is_next c.args.handler.now c.reads.handler w.feed.new.handler _ _ _ _ _ _ c.reads.partial_line.items (take w.in-Some.n c.send_and_read.new.block) w.feed.new.partial_line.items
            streamed (rw w.in-Some.is at c.in_ok-send_and_read.ensures.bytes)
            w.in_ok-feed-in-Some.ensures.ok w.in_ok-feed-in-Some.ensures.next w.in_ok-feed-in-Some.ensures.partial_line w.in_ok-feed-in-Some.ensures.is_line);
        room = room;
      }
    ]

pub returns-in_err-room-clause-memory : goal.returns-in_err-room-clause-memory
returns-in_err-room-clause-memory g c = λ h. nothing_yet (g.H.LineHandler.first_answers c.args.handler.now) _ _ (g.met.H.LineHandler.none_first c.args.handler.now)

pub returns-in_err-feed-in-Some-clause-write : goal.returns-in_err-feed-in-Some-clause-write
returns-in_err-feed-in-Some-clause-write g c =
    let keeps = held_sent (g.W.Write.contents c.reads.output) (g.W.Write.contents c.send_and_read.new.output) c.reads.held.items c.send_and_read.new.held.items
    (c.in_ok-send_and_read.ensures.sent) (c.in_ok-send_and_read.ensures.none_held) in
    let streamed = streamed_sent g.H.LineHandler.answers g.H.LineHandler.first_answers g.H.LineHandler.is_next c.args.handler.now c.reads.handler (g.R.Read.remaining c.args.input.now) (g.R.Read.remaining c.reads.input)
    (append_known (g.W.Write.contents c.args.output.now) c.args.held.now.items)
    (append_known (g.W.Write.contents c.reads.output) c.reads.held.items)
    (append_known (g.W.Write.contents c.send_and_read.new.output) c.send_and_read.new.held.items)
    c.reads.partial_line.items c.reads.invariant.streamed keeps in
    let p = err_from_is_err_and c.from_residual-in_err-feed-in-Some.result c.from_residual-in_err-feed-in-Some.ensures.1 in
    if_write_failed c.from_residual-in_err-feed-in-Some.result p.0 _ _ p.1 p.2 (λ failed.
    let begun = c.in_err-feed-in-Some.ensures.write failed in (
      begun.0,
      streamed_some g.H.LineHandler.answers g.H.LineHandler.first_answers g.H.LineHandler.is_next c.args.handler.now c.reads.handler _ _ _ _ _ (append_known (g.W.Write.contents c.feed.new.output) begun.0) c.reads.partial_line.items (take c.in-Some.n c.send_and_read.new.block) streamed
          (rw c.in-Some.is at c.in_ok-send_and_read.ensures.bytes) begun.1,
    ))

pub returns-in_err-send_and_read-clause-write : goal.returns-in_err-send_and_read-clause-write
returns-in_err-send_and_read-clause-write g c =
    let p = err_from_is_err_and c.from_residual-in_err-send_and_read.result c.from_residual-in_err-send_and_read.ensures.1 in
    if_write_failed c.from_residual-in_err-send_and_read.result p.0 _ _ p.1 p.2 (λ failed.
    let begun = c.in_err-send_and_read.ensures.write failed in
    let b = g.W.Write.contents c.send_and_read.new.output in (
      begun.0,
      streamed_unread g.H.LineHandler.answers g.H.LineHandler.first_answers g.H.LineHandler.is_next c.args.handler.now c.reads.handler _ _ _ _ _ (append_known b begun.0) c.reads.partial_line.items c.reads.invariant.streamed
          (c.in_err-send_and_read.ensures.unread failed)
          (held_begun (g.W.Write.contents c.reads.output) b c.reads.held.items begun.0 begun.1),
    ))
