use Rattle.std.proofs.Common.{◌≡◌, ◌++◌, flat_map, drop}
use Rattle.json.specs.Tree.{json_tokens}
use Rattle.groklog_answers.specs.PlannedFields.{key_values}
use Rattle.groklog_answers.specs.PlanViews.{names_of}
use Rattle.groklog_answers.specs.Views.{found_layout, found_text}
use Rattle.groklog_answers.proofs.planned.write_values.Given as goal

abbrev pub invariant-keys : goal.invariant-keys
invariant-keys l = record {
  values : l.writer.tokens ++ flat_map json_tokens (flat_map (key_values (found_layout l.found) (found_text l.found)) (names_of (drop l.key-index l.keys)))
      ≡ l.fn.writer.tokens ++ flat_map json_tokens (flat_map (key_values (found_layout l.fn.found) (found_text l.fn.found)) (names_of l.fn.keys));
  before : l.writer.before ≡ l.fn.writer.before;
}
