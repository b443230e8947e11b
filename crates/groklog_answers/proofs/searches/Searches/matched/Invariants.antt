use Rattle.std.proofs.Common.{◌≡◌, ◌++◌, map, drop}
use Rattle.groklog_answers.specs.Searches.{matched_in}
use Rattle.groklog_answers.proofs.searches.Searches.matched.Given as goal

abbrev pub invariant-searches : goal.invariant-searches
invariant-searches l = l.counts.items ++ map (λ search. search.matched) (drop l.search-index l.search-items)
    ≡ matched_in l.fn.self
