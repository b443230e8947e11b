use Rattle.std.proofs.Common.{◌≡◌, ◌++◌, map, drop}
use Rattle.groklog_answers.specs.{matched_in}
use Rattle.groklog_views.specs.Pages.{share_count}
use Rattle.groklog_views.proofs.page.pattern_shares.Given as goal

abbrev pub invariant-counts : goal.invariant-counts
invariant-counts l = map share_count l.shares.items ++ drop l.number l.count-items ≡ matched_in l.fn.searches
