use Rattle.std.proofs.Common.{◌≡◌, drop, arith}
use Rattle.std.specs.List.{position_or_len}
use Rattle.std.proofs.lemmas.Grind.{common_steps}
use Rattle.grok_parser.specs.Pieces.{is_percent}
use Rattle.grok_parser.proofs.RunsEndAtBoundaries.{IsCharBoundary-percent}
use Rattle.grok_parser.proofs.parser.regular_len.Goals as goal

pub returns-clause-boundary : goal.returns-clause-boundary
returns-clause-boundary c =
    let e : c.percent_or_len.result ≡ position_or_len is_percent (drop c.regular_skip-skip.result c.args.text.now) = grind (arith, common_steps) in
    rw e (IsCharBoundary-percent c.args.text.now c.regular_skip-skip.result (omega arith))
