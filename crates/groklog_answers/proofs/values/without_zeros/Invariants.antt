use Rattle.std.proofs.Common.{◌≡◌, length}
use denote.Text.{Utf8}
use denote.Shadow.{shadow}
use Rattle.groklog_answers.specs.Values.{without_zeros}
use Rattle.groklog_answers.proofs.values.without_zeros.Given as goal

abbrev pub invariant-zeros : goal.invariant-zeros
invariant-zeros l = shadow (Utf8 l.rest) × (without_zeros l.rest ≡ without_zeros l.fn.text)

abbrev pub decreases-zeros : goal.decreases-zeros
decreases-zeros l = length l.rest
