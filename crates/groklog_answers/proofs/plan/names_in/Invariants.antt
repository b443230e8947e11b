use Rattle.std.proofs.Common.{◌≡◌, ◌++◌, ◌-◌, option_map, vec_len}
use denote.Text.{Utf8}
use denote.Shadow.{shadow}
use Rattle.groklog_answers.specs.Plans.{names_within, most_names}
use Rattle.groklog_answers.specs.PlanViews.{names_of}
use Rattle.groklog_answers.proofs.plan.names_in.Given as goal

abbrev pub invariant-names : goal.invariant-names
invariant-names l = shadow (Utf8 l.rest)
    × (option_map (λ more. names_of l.names.items ++ more) (names_within (most_names - vec_len l.names) l.rest)
    ≡ names_within most_names l.fn.key)

abbrev pub decreases-names : goal.decreases-names
decreases-names l = most_names - vec_len l.names
