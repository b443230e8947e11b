use Rattle.std.proofs.Common.{◌≡◌, ◌++◌, map, string_bytes}
use Rattle.grok_uses.specs.Uses.{values_of_kind}
use Rattle.grok_uses.proofs.extracts.values_of_kind.Given as goal

abbrev pub invariant-pairs : goal.invariant-pairs
invariant-pairs g l =
    map string_bytes l.values.items ++ values_of_kind l.pattern l.kind l.key-iterator
    ≡ values_of_kind l.pattern l.kind l.initial.key-iterator
