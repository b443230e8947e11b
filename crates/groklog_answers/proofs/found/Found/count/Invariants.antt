use Rattle.std.proofs.Common.{◌≡◌, ◌+◌, ◌≤◌, flat_map, length, drop}
use Rattle.groklog_answers.specs.PlannedFields.{key_values}
use Rattle.groklog_answers.specs.PlanViews.{names_of}
use Rattle.groklog_answers.specs.Views.{found_layout, found_text}
use Rattle.groklog_answers.proofs.found.Found.count.Given as goal

abbrev pub invariant-keys : goal.invariant-keys
invariant-keys l = record {
  values : l.count + length (flat_map (key_values (found_layout l.self) (found_text l.self)) (names_of (drop l.key-index l.keys)))
      ≡ length (flat_map (key_values (found_layout l.fn.self) (found_text l.fn.self)) (names_of l.fn.keys));
  few : l.count ≤ l.key-index;
}
