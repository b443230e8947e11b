-- The line is handled as the definition reads it, and the next one has one more line before it.
use Rattle.std.proofs.Common.{◌≡◌, ◌+◌, ◌++◌, ◌==◌, ◌∷◌, [], ap, sym, ◌∙◌, arith}
use Rattle.std.proofs.lemmas.Grind.{common_steps}
use Rattle.grok_lines.specs.Streams.{GoesOn}
use Rattle.groklog_input.specs.LineForms.{trimmed, formed}
use Rattle.groklog_input.proofs.LinesAreFormed.{text_is_read_as_it_is, goes_on_by_line}
use Rattle.groklog_input.proofs.formed_answers.FormedAnswersLineHandler.handle_str.Goals as goal

pub returns-clause-ok : goal.returns-clause-ok
returns-clause-ok g c =
    let old = c.args.self.now in
    let text = c.trim-line.result.now in
    let is_trimmed = c.trim-line.ensures
    ∙ ap (λ form. trimmed form (c.note_first.new.self.line_count == 0) c.args.line.now) c.note_first.ensures.form
    ∙ ap (λ n. trimmed old.form (n == 0) c.args.line.now) c.note_first.ensures.count in
    c.in_ok-handle_str.ensures.ok
    ∙ ap (λ answers. c.args.text.now.items ++ g.A.LineHandler.first_answers answers (text ∷ [])) c.note_first.ensures.answers
    ∙ ap (λ line. c.args.text.now.items ++ g.A.LineHandler.first_answers old.answers (line ∷ []))
    (sym (text_is_read_as_it_is old.form old.line_count c.args.line.now text is_trimmed c.trim-line.utf8))

pub returns-clause-next : goal.returns-clause-next
returns-clause-next g c =
    let old = c.args.self.now in
    let text = c.trim-line.result.now in
    let is_trimmed = c.trim-line.ensures
    ∙ ap (λ form. trimmed form (c.note_first.new.self.line_count == 0) c.args.line.now) c.note_first.ensures.form
    ∙ ap (λ n. trimmed old.form (n == 0) c.args.line.now) c.note_first.ensures.count in
    let read = text_is_read_as_it_is old.form old.line_count c.args.line.now text is_trimmed c.trim-line.utf8 in
    let on : GoesOn g.A.LineHandler.answers g.A.LineHandler.first_answers g.A.LineHandler.is_next old.answers (formed old.form old.line_count c.args.line.now ∷ []) c.handle_str.new.self
    = rw read (rw c.note_first.ensures.answers at c.in_ok-handle_str.ensures.next) in
    let count : c.in_ok-line_count.line_count ≡ old.line_count + 1 = grind (arith, common_steps, c.in_ok-line_count.ensures.ok, c.in_ok-line_count.ensures.err) in
    goes_on_by_line g.A.LineHandler.answers g.A.LineHandler.first_answers g.A.LineHandler.is_next old _ c.args.line.now on c.note_first.ensures.form count
