use Rattle.std.proofs.Common.{◌≡◌, ◌++◌, map}
use Rattle.std.specs.Prelude.{filter_map}
use Rattle.grok.specs.{text_of, pieces}
use Rattle.grok_uses.specs.Uses.{name_of}
use Rattle.grok_uses.proofs.names.placeholder_names.Given as goal

abbrev pub invariant-loop-piece : goal.invariant-loop-piece
invariant-loop-piece l = map text_of l.names.items ++ filter_map name_of l.piece-iterator ≡ filter_map name_of (pieces l.pattern)
