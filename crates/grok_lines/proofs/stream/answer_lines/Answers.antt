use Rattle.grok_lines.specs.Traffic.{traffic}
use Rattle.std.specs.Io.KnownBytes.{append_known}
use Rattle.grok_lines.specs.Streams.{answers_of}
use Rattle.grok_lines.proofs.InputsAreEnded.{some_of_any, if_write_failed_by}
use Rattle.grok_lines.proofs.stream.answer_lines.Goals as goal

pub returns-clause-write : goal.returns-clause-write
returns-clause-write g c =
    let r = g.R.Read.remaining c.args.input.now in
    let s = g.R.Read.remaining c.handle_lines.new.input in
    let a = g.W.Write.contents c.args.output.now in
    let d = g.W.Write.contents c.handle_lines.new.output in
    if_write_failed_by c.handle_lines.result _ _
    (λ begun. (begun.0, some_of_any (answers_of (g.A.LineAnswers.answer c.args.answers.now)) (traffic r s a (append_known d begun.0)) begun.1))
    c.handle_lines.ensures.write
