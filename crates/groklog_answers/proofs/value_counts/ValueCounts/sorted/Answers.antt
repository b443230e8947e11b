-- The list is sorted by its counts.
use Rattle.std.proofs.Common.{◌-◌, ◌^◌, ◌<◌, map, rules, subst, IsPermutation}
use Rattle.std.proofs.lemmas.List.Sorted.{IsPermutation-map, IsNonDecreasingBy-from_sort_by_key, All-permutation}
use Rattle.groklog_answers.specs.ValueCounts.{counted_pair}
use Rattle.groklog_answers.proofs.ValuesAreByCount.{sorted_by_count}
use Rattle.groklog_answers.proofs.value_counts.ValueCounts.sorted.Goals as goal

pub returns : goal.returns
returns c = record {
  all = subst (λ pairs. IsPermutation pairs (map counted_pair c.sort_by_key.new.self.items)) c.in_ok-all.ensures.values
      (IsPermutation-map counted_pair _ _ c.in_ok-sort_by_key.ensures.permutation);
  order = sorted_by_count _ (All-permutation (λ counted. counted.count < 2 ^ 64) _ _ c.in_ok-sort_by_key.ensures.permutation c.in_ok-all.ensures.fits)
      (IsNonDecreasingBy-from_sort_by_key (λ counted. (2 ^ 64 - 1) - counted.count) _ c.in_ok-sort_by_key.ensures.sorted (λ a r q k. search rules));
}
