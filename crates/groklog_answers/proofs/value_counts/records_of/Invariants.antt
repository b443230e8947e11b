-- The records of the values so far were written after the header.
use Rattle.std.proofs.Common.{◌≡◌, take, map}
use Rattle.groklog_answers.specs.ValueCounts.{counted_pair, counts_text}
use Rattle.groklog_answers.specs.declared.layout.OutputFormat.TheVariants.{Csv}
use Rattle.groklog_answers.proofs.value_counts.records_of.Given as goal

abbrev pub invariant-values : goal.invariant-values
invariant-values l = l.text.items ≡ counts_text Csv (map counted_pair (take l.counted-index l.all))
