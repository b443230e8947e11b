use Rattle.std.proofs.Common.{◌≡◌, ◌++◌, flat_map}
use Rattle.grok.specs.Answers.{walk}
use Rattle.grok.specs.BorrowedMatches.{borrowed_keys, borrowed_captures}
use Rattle.groklog_answers.specs.Layouts.{layout_value}
use Rattle.groklog_answers.specs.PairTexts.{field_line}
use Rattle.groklog_answers.proofs.pairs.append_all.Given as goal

abbrev pub invariant-pairs : goal.invariant-pairs
invariant-pairs l = l.text.items ++ flat_map (field_line (layout_value l.layout)) l.key-iterator
    ≡ l.fn.text.items ++ flat_map (field_line (layout_value l.layout)) (walk (borrowed_keys l.fn.matches) (borrowed_captures l.fn.matches))
