use Rattle.std.proofs.Common.{◌≡◌, ◌++◌, flat_map}
use Rattle.grok.specs.Answers.{walk}
use Rattle.grok.specs.BorrowedMatches.{borrowed_keys, borrowed_captures}
use Rattle.groklog_answers.specs.Objects.{member_tokens, field_members}
use Rattle.groklog_answers.specs.Views.{found_layout, found_text}
use Rattle.groklog_answers.proofs.object.write_pairs.Given as goal

abbrev pub invariant-pairs : goal.invariant-pairs
invariant-pairs l = record {
  members : l.writer.tokens ++ flat_map member_tokens (flat_map (field_members (found_layout l.found) (found_text l.found).extracts) l.key-iterator)
      ≡ l.fn.writer.tokens ++ flat_map member_tokens (flat_map (field_members (found_layout l.fn.found) (found_text l.fn.found).extracts)
      (walk (borrowed_keys l.fn.found.matches) (borrowed_captures l.fn.found.matches)));
  before : l.writer.before ≡ l.fn.writer.before;
}
