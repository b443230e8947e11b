-- The members of the pairs so far were written.
use Rattle.std.proofs.Common.{◌≡◌, ◌++◌, flat_map, map, take}
use Rattle.groklog_answers.specs.Objects.{member_tokens}
use Rattle.groklog_answers.specs.ValueLists.{key_value, string_member}
use Rattle.groklog_answers.proofs.value_lists.write_members.Given as goal

abbrev pub invariant-pairs : goal.invariant-pairs
invariant-pairs l = record {
  members : l.writer.tokens ≡ l.fn.writer.tokens ++ flat_map member_tokens (map string_member (map key_value (take l.pair-index l.pairs)));
  before : l.writer.before ≡ l.fn.writer.before;
}
