use Rattle.std.proofs.Common.{◌≡◌, length, Some, ap, arith}
use Rattle.std.specs.List.{before_first}
use Rattle.std.proofs.lemmas.Bool.Decides.{nat_tests}
use Rattle.std.proofs.lemmas.Str.Pattern.{strip_prefix_char}
use Rattle.grok_parser.specs.Pieces.{is_brace}
use Rattle.grok_parser.proofs.MalformedHasReason.{definition_stops, definition_brace, definition_nothing}
use Rattle.grok_parser.proofs.placeholder.read_definition.Goals as goal

pub returns-then-is_empty-clause-malformed : goal.returns-then-is_empty-clause-malformed
returns-then-is_empty-clause-malformed c =
    let none : length c.split_brace.result.1.now ≡ 0 = grind (arith, nat_tests, c.is_empty.ensures, c.if-is_empty.true) in
    definition_stops c.args.text.now c.split_brace.result.1.now c.split_brace.ensures.rest none

pub returns-in_default-clause-malformed : goal.returns-in_default-clause-malformed
returns-in_default-clause-malformed c =
    let some : ¬ (length c.split_brace.result.1.now ≡ 0) = grind (arith, nat_tests, c.is_empty.ensures, c.if-is_empty.false) in
    definition_brace c.args.text.now c.split_brace.result.1.now c.split_brace.ensures.rest some c.in_default.ensures.cases

pub returns-then-is_empty-2-clause-malformed : goal.returns-then-is_empty-2-clause-malformed
returns-then-is_empty-2-clause-malformed c =
    let none : length (before_first is_brace c.args.text.now) ≡ 0 = grind (arith, nat_tests, c.is_empty-2.ensures, c.if-is_empty-2.true, ap length c.split_brace.ensures.front) in
    definition_nothing c.args.text.now c.split_brace.result.1.now c.split_brace.ensures.rest c.in-Some.after.now (strip_prefix_char 125 c.split_brace.result.1.now (Some c.in-Some.after) c.in-Some.ensures.cases (omega arith)) none
