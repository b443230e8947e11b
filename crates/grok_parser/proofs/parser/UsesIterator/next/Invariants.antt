use Rattle.std.proofs.Common.{◌≡◌, length, filter_map}
use Rattle.grok_parser.specs.Uses.{use_of}
use Rattle.grok_parser.proofs.parser.UsesIterator.next.Given as goal

abbrev pub invariant-pieces : goal.invariant-pieces
invariant-pieces l = filter_map use_of l.initial.self-inside.pieces ≡ filter_map use_of l.self-inside.pieces

abbrev pub decreases-pieces : goal.decreases-pieces
decreases-pieces l = length l.self-inside.pieces
