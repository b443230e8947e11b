-- Where the pieces of a text come from: it is split now, or was split before and its pieces are kept as spans.
use Rattle.std.specs.Prelude.{List, All, map}
use Rattle.grok.specs.declared.defs.pieces.Source.{Source}
use Rattle.grok.specs.declared.defs.pieces.Source.TheVariants.{Split, Kept}
use Rattle.grok_parser.specs.Pieces.{Piece}
use Rattle.grok.specs.steps.Spans.{piece_in, IsSpanOf}

-- the remaining pieces
abbrev pub pieces_left : Source → List Piece
pieces_left (Split split) = split
pieces_left (Kept text spans) = map (piece_in text.now) spans.now

-- if the pieces are kept as spans, the ranges of each remaining span are ranges of the text
abbrev pub IsSource : Source → Type 0
IsSource (Split split) = Unit {0}
IsSource (Kept text spans) = All (IsSpanOf text.now) spans.now
