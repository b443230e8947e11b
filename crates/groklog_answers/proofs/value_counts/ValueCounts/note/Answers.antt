-- The value was added to the map.
use Rattle.std.proofs.Common.{arith, ap}
use Rattle.std.proofs.lemmas.Map.Text.{text_keys}
use Rattle.groklog_answers.specs.ValueCounts.{others_of, most_of}
use Rattle.groklog_answers.proofs.value_counts.ValueCounts.note.Goals as goal

pub returns-clause-first : goal.returns-clause-first
returns-clause-first c = λ none room. let before = c.note_again.ensures.other none in record {
  counted = grind (arith, text_keys);
  same = λ other differs. grind (arith, text_keys, before);
  others = ap others_of before;
  most = ap most_of before;
}
