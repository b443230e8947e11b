use Rattle.std.proofs.Common.{◌≤◌, length}
use Rattle.groklog_views.proofs.key_figures.stretches_at.Given as goal

abbrev pub invariant-times : goal.invariant-times
invariant-times l = length l.stretches.items ≤ 24
