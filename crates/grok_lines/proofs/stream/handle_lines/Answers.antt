use Rattle.std.proofs.Common.{ℕ, List, inl, inr}
use Rattle.std.specs.Io.KnownBytes.{append_known}
use Rattle.grok_lines.specs.Streams.{GoesOn}
use Rattle.grok_lines.proofs.InputsAreEnded.{input_ended, lines_ended, some_of_all, some_of_ended, some_of_some, on_ok, on_read, on_memory, input_begun, lines_begun, some_begun, on_write}
use Rattle.grok_lines.proofs.stream.handle_lines.Goals as goal

pub returns-clause-ok : goal.returns-clause-ok
returns-clause-ok g c =
    on_ok c.finish.result c.end_after-ended.result c.answer_blocks-ran.result _ _ _ _ _ c.finish.ensures.same c.end_after-ended.ensures.same
    c.answer_blocks-ran.ensures.ok c.end_after-ended.ensures.ended.0 c.end_after-ended.ensures.next.0 c.finish.ensures.bytes
    (λ blocks ended next out. input_ended g.H.LineHandler.answers g.H.LineHandler.first_answers g.H.LineHandler.is_next c.args.handler.now c.answer_blocks-ran.new.handler c.end_after-ended.new.handler
    _ _ (g.W.Write.contents c.args.output.now) (g.W.Write.contents c.answer_blocks-ran.new.output) (g.W.Write.contents c.finish.new.output)
    c.answer_blocks-ran.new.held.items c.end_after-ended.new.held.items (rw c.new-held.ensures.items at blocks) ended next out)

pub returns-clause-read : goal.returns-clause-read
returns-clause-read g c =
    on_read c.finish.result c.end_after-ended.result c.answer_blocks-ran.result _ _ _ _ _ c.finish.ensures.same c.end_after-ended.ensures.same
    c.answer_blocks-ran.ensures.read c.end_after-ended.ensures.ended.1 c.end_after-ended.ensures.next.1 c.finish.ensures.bytes
    (λ blocks ended next out. lines_ended g.H.LineHandler.answers g.H.LineHandler.first_answers g.H.LineHandler.is_next c.args.handler.now c.answer_blocks-ran.new.handler c.end_after-ended.new.handler
    _ _ (g.W.Write.contents c.args.output.now) (g.W.Write.contents c.answer_blocks-ran.new.output) (g.W.Write.contents c.finish.new.output)
    c.answer_blocks-ran.new.held.items c.end_after-ended.new.held.items (rw c.new-held.ensures.items at blocks) ended next out)

pub returns-clause-memory : goal.returns-clause-memory
returns-clause-memory g c =
    let F = g.H.LineHandler.first_answers c.args.handler.now in
    let a = g.W.Write.contents c.args.output.now in
    let b = g.W.Write.contents c.answer_blocks-ran.new.output in
    let d = g.W.Write.contents c.finish.new.output in
    let held = c.answer_blocks-ran.new.held.items in
    let sent = c.end_after-ended.new.held.items in
    let Holds : List (List ℕ) → Type 0 = λ lines. GoesOn g.H.LineHandler.answers g.H.LineHandler.first_answers g.H.LineHandler.is_next c.args.handler.now lines c.answer_blocks-ran.new.handler in
    on_memory c.finish.result c.end_after-ended.result c.answer_blocks-ran.result _ _ _ _ _ c.finish.ensures.same c.end_after-ended.ensures.write
    c.answer_blocks-ran.ensures.ok c.answer_blocks-ran.ensures.read c.answer_blocks-ran.ensures.memory c.finish.ensures.bytes
    (λ blocks out is. some_of_all F Holds _ _ a b d held sent (rw c.new-held.ensures.items at blocks) (c.end_after-ended.ensures.memory is) out)
    (λ blocks out is. some_of_ended F Holds _ _ a b d held sent (rw c.new-held.ensures.items at blocks) (c.end_after-ended.ensures.memory is) out)
    (λ blocks out is. some_of_some F _ _ a b d held sent (rw c.new-held.ensures.items at blocks) (c.end_after-ended.ensures.memory is) out)

pub returns-clause-write : goal.returns-clause-write
returns-clause-write g c =
    let E = g.H.LineHandler.answers in
    let F = g.H.LineHandler.first_answers in
    let N = g.H.LineHandler.is_next in
    let f = c.args.handler.now in
    let by = c.answer_blocks-ran.new.handler in
    let a = g.W.Write.contents c.args.output.now in
    let b = g.W.Write.contents c.answer_blocks-ran.new.output in
    let d = g.W.Write.contents c.finish.new.output in
    let held = c.answer_blocks-ran.new.held.items in
    let sent = c.end_after-ended.new.held.items in
    let Holds : List (List ℕ) → Type 0 = λ lines. GoesOn E F N f lines by in
    on_write c.finish.result c.end_after-ended.result c.answer_blocks-ran.result _ _ _ _ _ _ _ _ _ _ c.end_after-ended.ensures.same
    c.answer_blocks-ran.ensures.ok c.answer_blocks-ran.ensures.read c.answer_blocks-ran.ensures.memory c.answer_blocks-ran.ensures.write
    c.end_after-ended.ensures.ended.0 c.end_after-ended.ensures.ended.1 c.end_after-ended.ensures.memory c.end_after-ended.ensures.write
    c.finish.ensures.write c.finish.ensures.failed
    (λ blocks ended out. (out.0, inl (input_begun E F N f by _ _ a b (append_known d out.0) held sent (rw c.new-held.ensures.items at blocks) ended out.1)))
    (λ blocks ended out. (out.0, inr (inl (lines_begun E F N f by _ _ a b (append_known d out.0) held sent (rw c.new-held.ensures.items at blocks) ended out.1))))
    (λ blocks same out. (out.0, inr (inr (some_of_all (F f) Holds _ _ a b (append_known d out.0) held sent (rw c.new-held.ensures.items at blocks) same out.1))))
    (λ blocks same out. (out.0, inr (inr (some_of_ended (F f) Holds _ _ a b (append_known d out.0) held sent (rw c.new-held.ensures.items at blocks) same out.1))))
    (λ blocks same out. (out.0, inr (inr (some_of_some (F f) _ _ a b (append_known d out.0) held sent (rw c.new-held.ensures.items at blocks) same out.1))))
    (λ blocks kept. let begun = some_begun (F f) _ _ a b d (rw c.new-held.ensures.items at blocks) kept in (begun.0, inr (inr begun.1)))
