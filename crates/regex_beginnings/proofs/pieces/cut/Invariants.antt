use Rattle.std.proofs.Common.{◌≡◌}
use Rattle.regex_beginnings.proofs.pieces.cut.Given as goal

abbrev pub invariant-steps : goal.invariant-steps
invariant-steps l = l.cutter.text.now ≡ l.fn.text
