-- Of the map only the count of this value changed.
use Rattle.std.proofs.Common.{arith, refl}
use Rattle.std.proofs.lemmas.Map.Text.{text_keys}
use Rattle.groklog_answers.proofs.value_counts.ValueCounts.note_again.Goals as goal

pub returns-clause-again : goal.returns-clause-again
returns-clause-again c = λ count is. record {
  counted = grind (arith, text_keys);
  same = λ other differs. grind (arith, text_keys);
  others = refl;
  most = refl;
}
