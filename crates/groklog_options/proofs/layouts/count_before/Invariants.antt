-- None of those so far is the line.
use Rattle.std.proofs.Common.{◌≡◌, ◌+◌, drop}
use Rattle.groklog_options.specs.Additions.{count_before}
use Rattle.groklog_options.proofs.layouts.count_before.Given as goal

abbrev pub invariant-added : goal.invariant-added
invariant-added l = l.index + count_before (drop l.index l.added) ≡ count_before l.fn.added
