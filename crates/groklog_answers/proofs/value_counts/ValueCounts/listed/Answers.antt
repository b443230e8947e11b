-- One more entry is listed, and at the end all were yielded.
use Rattle.std.proofs.Common.{◌≡◌, map, rules, ◌∙◌, ap}
use Rattle.std.proofs.lemmas.Map.Iter.{iter_end}
use Rattle.std.specs.Map.Iter.{deref_pair}
use Rattle.groklog_answers.proofs.ValuesAreByCount.{entry_pair, listed_more, fits_more, lent_are_entries}
use Rattle.groklog_answers.proofs.value_counts.ValueCounts.listed.Goals as goal

pub values-preserved : goal.values-preserved
values-preserved c = record {
  values = listed_more _ _ c.values.yielded (c.in-Some.value, c.in-Some.count) c.counted_of.result c.in_ok-push.ensures.items c.counted_of.ensures.pair c.values.invariant.values;
  fits = fits_more _ _ c.counted_of.result c.in_ok-push.ensures.items c.counted_of.ensures.fits c.values.invariant.fits;
}

pub returns-clause-values : goal.returns-clause-values
returns-clause-values c =
    let all : map deref_pair c.values.yielded ≡ c.args.self.now.counts.entries = search (rules, iter_end) in
    c.values.invariant.values ∙ (lent_are_entries c.values.yielded ∙ ap (map entry_pair) all)
