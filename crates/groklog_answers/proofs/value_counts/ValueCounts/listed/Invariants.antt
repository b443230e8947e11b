-- The values so far are in the list.
use Rattle.std.proofs.Common.{◌≡◌, ◌<◌, ◌^◌, All, map, string_bytes}
use Rattle.groklog_answers.specs.ValueCounts.{counted_pair}
use Rattle.groklog_answers.proofs.value_counts.ValueCounts.listed.Given as goal

abbrev pub invariant-values : goal.invariant-values
invariant-values l = record {
  values : map counted_pair l.all.items ≡ map (λ entry. (string_bytes entry.0.now, entry.1.now)) l.yielded;
  fits : All (λ counted. counted.count < 2 ^ 64) l.all.items;
}
