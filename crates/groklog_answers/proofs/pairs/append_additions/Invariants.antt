use Rattle.std.proofs.Common.{◌≡◌, ◌++◌, flat_map, map, take}
use Rattle.groklog_answers.specs.Layouts.{added_pair}
use Rattle.groklog_answers.specs.PairTexts.{added_line}
use Rattle.groklog_answers.specs.Views.{answered_text}
use Rattle.groklog_answers.proofs.pairs.append_additions.Given as goal

abbrev pub invariant-additions : goal.invariant-additions
invariant-additions l = l.text.items ≡ l.fn.text.items
    ++ flat_map (added_line (answered_text l.line)) (map added_pair (take l.added-index l.additions))
