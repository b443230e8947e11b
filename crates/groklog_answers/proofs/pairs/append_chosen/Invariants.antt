use Rattle.std.proofs.Common.{◌≡◌, ◌++◌, Some, flat_map, map, take}
use Rattle.grok.specs.Answers.{walk, value_of}
use Rattle.grok.specs.BorrowedMatches.{borrowed_keys, borrowed_captures}
use Rattle.groklog_answers.specs.Layouts.{layout_value}
use Rattle.groklog_answers.specs.PairTexts.{field_line, chosen_pairs}
use Rattle.groklog_answers.proofs.pairs.append_chosen.Given as goal

abbrev pub invariant-names : goal.invariant-names
invariant-names l = l.text.items ≡ l.fn.text.items ++ flat_map (field_line (layout_value l.layout))
    (chosen_pairs (Some (map (λ name. name.now) (take l.name-index l.names)))
    (walk (borrowed_keys l.matches) (borrowed_captures l.matches))
    (value_of (borrowed_keys l.matches) (borrowed_captures l.matches)))
