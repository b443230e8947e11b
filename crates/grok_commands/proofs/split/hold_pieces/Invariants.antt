use Rattle.std.specs.Io.KnownBytes.{append_known}
use Rattle.grok_parser.specs.Pieces.{pieces}
use Rattle.grok_commands.specs.Split.{IsPieceLine}
use Rattle.grok_commands.proofs.FirstAnswersHaveGoneOut.{Answered}
use Rattle.grok_commands.proofs.split.hold_pieces.Given as goal

abbrev pub invariant-pieces : goal.invariant-pieces
invariant-pieces g l = record {
  can_next : (goal.iterator-pieces g).can_next l.piece-iterator;
  is_finite : (goal.iterator-pieces g).is_finite l.piece-iterator;
  answered : Answered IsPieceLine (pieces l.fn.pattern) l.piece-iterator (append_known (g.W.Write.contents l.fn.output) l.fn.held.items) (append_known (g.W.Write.contents l.output) l.held.items);
}
