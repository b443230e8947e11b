-- The first of the sorted values are left.
use Rattle.std.proofs.Common.{map, sym, ap, ◌∙◌}
use Rattle.std.proofs.lemmas.List.{take-map}
use Rattle.groklog_answers.specs.ValueCounts.{counted_pair}
use Rattle.groklog_answers.proofs.value_counts.ValueCounts.commonest.Goals as goal

pub returns : goal.returns
returns c = record {
  all = map counted_pair c.in_ok-all.all.items;
  sorted = c.in_ok-all.ensures;
  first = ap (map counted_pair) c.truncate.ensures.items ∙ sym (take-map counted_pair c.args.top c.in_ok-all.all.items);
}
