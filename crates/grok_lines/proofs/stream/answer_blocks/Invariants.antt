use Rattle.std.proofs.Common.{◌<◌, length}
use Rattle.std.specs.Io.KnownBytes.{append_known}
use Rattle.grok_lines.specs.Traffic.{traffic}
use Rattle.grok_lines.proofs.AnswersHaveGoneOut.{Streamed}
use Rattle.grok_lines.proofs.stream.answer_blocks.Given as goal

abbrev pub invariant-reads : goal.invariant-reads
invariant-reads g l = record {
  streamed : Streamed g.H.LineHandler.answers g.H.LineHandler.first_answers g.H.LineHandler.is_next l.fn.handler l.handler (traffic (g.R.Read.remaining l.fn.input) (g.R.Read.remaining l.input) (append_known (g.W.Write.contents l.fn.output) l.fn.held.items) (append_known (g.W.Write.contents l.output) l.held.items)) l.partial_line.items;
  room : 0 < length l.block;
}
