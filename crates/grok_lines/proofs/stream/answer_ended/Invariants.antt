use Rattle.std.proofs.Common.{◌≡◌, ◌≤◌, IfSome, drop, length}
use Rattle.std.specs.Str.{IsUtf8, IsCharBoundary}
use Rattle.memchr.specs.Find.{is_byte, places_between}
use Rattle.std.specs.Io.KnownBytes.{append_known}
use Rattle.grok_lines.proofs.AnswersHaveGoneOut.{Fed}
use Rattle.grok_lines.proofs.stream.answer_ended.Given as goal

abbrev pub invariant-lines : goal.invariant-lines
invariant-lines g l = record {
  fed : Fed g.H.LineHandler.answers g.H.LineHandler.first_answers g.H.LineHandler.is_next l.fn.handler l.handler (append_known (g.W.Write.contents l.fn.output) l.fn.held.items) (append_known (g.W.Write.contents l.output) l.held.items) l.lines (drop l.start l.lines);
  feeds : l.end-iterator ≡ places_between (is_byte 10) l.lines l.start (length l.lines);
  start : l.start ≤ length l.lines;
  utf8 : IfSome l.utf8 (λ text. (text.now ≡ l.lines) × IsUtf8 l.lines × IsCharBoundary l.lines l.start);
}
