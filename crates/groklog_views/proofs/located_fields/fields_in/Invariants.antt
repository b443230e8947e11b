-- The fields so far, and those of the numbers that are left, are those of all numbers.
use Rattle.std.proofs.Common.{◌≡◌, ◌++◌, drop}
use Rattle.grok.specs.Answers.{value_of}
use Rattle.grok.specs.BorrowedMatches.{borrowed_line, borrowed_keys, borrowed_captures}
use Rattle.groklog_answers.specs.PlanViews.{names_of}
use Rattle.groklog_views.specs.Fields.{fields_text, values_at}
use Rattle.groklog_views.proofs.located_fields.fields_in.Given as goal

abbrev pub invariant-numbers : goal.invariant-numbers
invariant-numbers l = fields_text (borrowed_line l.matches) l.fields
    ++ values_at (value_of (borrowed_keys l.matches) (borrowed_captures l.matches)) (names_of l.keys) (drop l.number-index l.numbers)
    ≡ values_at (value_of (borrowed_keys l.fn.matches) (borrowed_captures l.fn.matches)) (names_of l.fn.keys) l.fn.numbers
