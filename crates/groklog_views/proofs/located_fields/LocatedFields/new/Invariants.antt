use Rattle.std.proofs.Common.{take}
use Rattle.std.specs.List.{AllZip}
use Rattle.groklog_answers.specs.PlanViews.{names_of}
use Rattle.groklog_views.specs.KeyNumbers.{counts, AreNumbersOf}
use Rattle.groklog_views.proofs.located_fields.LocatedFields.new.Given as goal

abbrev pub invariant-patterns : goal.invariant-patterns
invariant-patterns l = record {
  numbers : AllZip (λ named numbers. AreNumbersOf (counts l.fields) (names_of l.all.keys) named numbers.items) (take l.named-index l.patterns) l.numbers_by_pattern.items;
}
