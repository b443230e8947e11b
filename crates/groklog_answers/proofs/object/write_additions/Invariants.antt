use Rattle.std.proofs.Common.{◌≡◌, ◌++◌, flat_map, map, drop}
use Rattle.groklog_answers.specs.Layouts.{added_pair}
use Rattle.groklog_answers.specs.Objects.{member_tokens, added_members}
use Rattle.groklog_answers.specs.Views.{answered_text}
use Rattle.groklog_answers.proofs.object.write_additions.Given as goal

abbrev pub invariant-additions : goal.invariant-additions
invariant-additions l = record {
  members : l.writer.tokens ++ flat_map member_tokens (flat_map (added_members (answered_text l.line)) (map added_pair (drop l.added-index l.additions)))
      ≡ l.fn.writer.tokens ++ flat_map member_tokens (flat_map (added_members (answered_text l.fn.line)) (map added_pair l.fn.additions));
  before : l.writer.before ≡ l.fn.writer.before;
}
