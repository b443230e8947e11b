-- The lists so far were written.
use Rattle.std.proofs.Common.{◌≡◌, ◌++◌, flat_map, map, take}
use Rattle.groklog_answers.specs.ValueCounts.{counted_pair}
use Rattle.groklog_answers.specs.ValueLists.{frame_text, framed_list}
use Rattle.groklog_answers.proofs.value_counts.append_lists.Given as goal

abbrev pub invariant-values : goal.invariant-values
invariant-values l = l.text.items ≡ l.fn.text.items ++ flat_map (framed_list (frame_text l.frame)) (map counted_pair (take l.counted-index l.all))
