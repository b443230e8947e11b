use Rattle.std.proofs.Common.{◌≡◌, ◌++◌, map}
use Rattle.std.specs.List.{All}
use Rattle.grok_parser.specs.Pieces.{pieces}
use Rattle.grok.specs.steps.Spans.{piece_in, IsSpanOf, IsPieceOf}
use Rattle.grok.proofs.defs.spans.spans_of.Given as goal

abbrev pub invariant-loop-piece : goal.invariant-loop-piece
invariant-loop-piece l = record {
  reads : map (piece_in l.text) l.spans.items ++ l.piece-iterator ≡ pieces l.text;
  within : All (IsSpanOf l.text) l.spans.items;
  left : All (IsPieceOf l.text) l.piece-iterator;
}
