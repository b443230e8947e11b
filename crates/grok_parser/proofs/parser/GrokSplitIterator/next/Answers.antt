use Rattle.std.proofs.Common.{◌≡◌, length, arith, ap, sym, ◌∙◌}
use Rattle.std.proofs.lemmas.Bool.Decides.{nat_tests}
use Rattle.grok_parser.proofs.FirstPieceAndRest.{pieces_at_next, pieces_at_end}
use Rattle.grok_parser.proofs.parser.GrokSplitIterator.next.Goals as goal

pub returns-then-is_empty-clause-steps : goal.returns-then-is_empty-clause-steps
returns-then-is_empty-clause-steps c =
    let e : length c.self.inside.rest.now ≡ 0 = grind (arith, nat_tests) in
    let h = sym c.self.view_is ∙ pieces_at_end c.self.inside.at c.self.inside.rest.now e in
    (h, h)

pub returns-clause-steps : goal.returns-clause-steps
returns-clause-steps c =
    let n : ¬ (length c.self.inside.rest.now ≡ 0) = grind (arith, nat_tests) in
    sym c.self.view_is ∙ pieces_at_next c.self.inside.at c.self.inside.rest.now _ c.split_piece.result.1.now n c.split_piece.ensures.piece c.split_piece.ensures.rest

pub returns-clause-goes : goal.returns-clause-goes
returns-clause-goes c =
    let n : ¬ (length c.self.inside.rest.now ≡ 0) = grind (arith, nat_tests) in
    let e = sym c.self.view_is ∙ pieces_at_next c.self.inside.at c.self.inside.rest.now _ c.split_piece.result.1.now n c.split_piece.ensures.piece c.split_piece.ensures.rest in
    record { on = λ _. (tt, tt, omega (arith, ap length e)); keeps = tt; rests = λ _. tt }
