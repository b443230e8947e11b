use Rattle.std.proofs.Common.{◌≡◌, map, drop}
use Rattle.std.specs.List.{position_from}
use Rattle.std.specs.Option.{is_some}
use Rattle.groklog_answers.specs.Patterns.{match_of, first_match}
use Rattle.groklog_answers.specs.Searches.{first_index}
use Rattle.groklog_answers.specs.Views.{searched}
use Rattle.groklog_answers.proofs.searches.find_first.Given as goal

abbrev pub invariant-searches : goal.invariant-searches
invariant-searches l = record {
  same : map searched l.searches ≡ map searched l.fn.searches;
  index : position_from (λ pattern. is_some (match_of pattern l.fn.line)) l.i (drop l.i (map searched l.fn.searches))
      ≡ first_index (map searched l.fn.searches) l.fn.line;
  count : map (λ search. search.matched) l.searches ≡ map (λ search. search.matched) l.fn.searches;
  rest : first_match (drop l.i (map searched l.fn.searches)) l.fn.line ≡ first_match (map searched l.fn.searches) l.fn.line;
}
