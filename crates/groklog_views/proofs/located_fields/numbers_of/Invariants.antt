use Rattle.std.proofs.Common.{◌≡◌, ◌++◌, map, drop, filter, Some}
use Rattle.std.specs.Prelude.{slice_get}
use Rattle.groklog_answers.specs.PlanViews.{names_of}
use Rattle.groklog_views.specs.KeyNumbers.{counts}
use Rattle.groklog_views.specs.steps.MoreKeys.{HasMore}
use Rattle.groklog_views.proofs.located_fields.numbers_of.Given as goal

abbrev pub invariant-keys : goal.invariant-keys
invariant-keys l = record {
  numbers : map (slice_get (names_of l.all.keys)) l.numbers.items ++ map Some (filter (counts l.fields) (map (λ pair. pair.1.now) (drop l.key-index l.by_group)))
      ≡ map Some (filter (counts l.fields) (map (λ pair. pair.1.now) l.by_group));
  kept : HasMore l.fn.all.keys l.all.keys;
}
