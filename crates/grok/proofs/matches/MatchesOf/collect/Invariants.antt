use Rattle.std.proofs.Common.{◌≡◌, ◌++◌, map}
use Rattle.grok.specs.Maps.{pair_texts}
use Rattle.grok.specs.Answers.{walk}
use Rattle.grok.proofs.matches.MatchesOf.collect.Given as goal

abbrev pub invariant-pairs : goal.invariant-pairs
invariant-pairs g l = map pair_texts l.pairs.items ++ l.pair-iterator ≡ walk l.self.pattern.keys l.self.captures
