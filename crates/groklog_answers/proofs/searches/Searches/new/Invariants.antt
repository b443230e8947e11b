use Rattle.std.proofs.Common.{◌≡◌, ◌++◌, map, drop}
use Rattle.groklog_answers.specs.Views.{pattern_text, searched}
use Rattle.groklog_answers.proofs.searches.Searches.new.Given as goal

abbrev pub invariant-patterns : goal.invariant-patterns
invariant-patterns l = record {
  patterns : map searched l.searches.items ++ map pattern_text (drop l.named-index l.patterns)
      ≡ map pattern_text l.fn.patterns;
  matched : map (λ search. search.matched) l.searches.items ++ map (λ pattern. 0) (drop l.named-index l.patterns)
      ≡ map (λ pattern. 0) l.fn.patterns;
}
