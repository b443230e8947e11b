use Rattle.std.proofs.Common.{◌≡◌, ◌++◌}
use Rattle.std.specs.Prelude.{IsUtf8}
use Rattle.log_samples.specs.Tokens.{joined}
use Rattle.log_samples.proofs.tokens.Cutter.cut.Given as goal

abbrev pub invariant-tokens : goal.invariant-tokens
invariant-tokens l = record {
  all : joined l.tokens.items ++ l.rest ≡ l.fn.line;
  text : IsUtf8 l.rest;
}
