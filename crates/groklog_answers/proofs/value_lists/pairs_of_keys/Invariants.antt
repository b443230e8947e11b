-- The pairs so far, and those of the keys that are left, are those of all keys.
use Rattle.std.proofs.Common.{◌≡◌, ◌++◌, drop, option_map}
use Rattle.grok.specs.Answers.{value_of}
use Rattle.grok.specs.BorrowedMatches.{borrowed_keys, borrowed_captures}
use Rattle.groklog_answers.specs.PlanViews.{names_of}
use Rattle.groklog_answers.specs.ValueLists.{pairs_text, values_by}
use Rattle.groklog_answers.proofs.value_lists.pairs_of_keys.Given as goal

abbrev pub invariant-keys : goal.invariant-keys
invariant-keys l = option_map (λ rest. pairs_text l.pairs ++ rest)
    (values_by (value_of (borrowed_keys l.matches) (borrowed_captures l.matches)) (names_of (drop l.key-index l.keys)))
    ≡ values_by (value_of (borrowed_keys l.fn.matches) (borrowed_captures l.fn.matches)) (names_of l.fn.keys)
