-- What is added by the rows so far, and then by the others, is all of it.
use Rattle.std.proofs.Common.{◌≡◌, ◌++◌, map, drop}
use Rattle.std.specs.Prelude.{filter_map}
use Rattle.clap.specs.Matches.{found_of}
use Rattle.groklog_answers.specs.Layouts.{added_pair}
use Rattle.groklog_options.specs.Additions.{added_by, added_in}
use Rattle.groklog_options.proofs.additions.added_of.Given as goal

abbrev pub invariant-additions : goal.invariant-additions
invariant-additions l = map added_pair l.added.items ++ filter_map (added_by (found_of l.matches)) (drop l.what-index l.what-items)
    ≡ added_in (found_of l.matches)
