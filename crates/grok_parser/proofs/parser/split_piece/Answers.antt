use Rattle.std.proofs.Common.{rules, ap, ◌∙◌, sym}
use Rattle.grok_parser.specs.Pieces.{placeholder_at, first_piece}
use Rattle.grok_parser.proofs.FirstPieceAndRest.{inside_is_rest, rests}
use Rattle.grok_parser.proofs.parser.split_piece.Goals as goal

pub text_before-pattern-requires : goal.text_before-pattern-requires
text_before-pattern-requires c =
    inside_is_rest c.args.text.now _ c.in-Some.ensures.0 (ap placeholder_at (sym c.in-Some.ensures.1) ∙ c.in-Ok.ensures.reading)

pub returns-in-Ok-clause-is_rest : goal.returns-in-Ok-clause-is_rest
returns-in-Ok-clause-is_rest c =
    inside_is_rest c.args.text.now _ c.in-Some.ensures.0 (ap placeholder_at (sym c.in-Some.ensures.1) ∙ c.in-Ok.ensures.reading)

-- by one tactic, so that a wrong body is refused at once
pub returns-in-Err-clause-rest : goal.returns-in-Err-clause-rest
unfolding first_piece
returns-in-Err-clause-rest c = search (rules, rests)
