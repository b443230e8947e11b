use Rattle.std.proofs.Common.{rules, string_bytes}
use Rattle.std.specs.Io.KnownBytes.{Appends, append_known}
use Rattle.grok_parser.specs.Pieces.{pieces}
use Rattle.grok_parser.specs.Views.{piece_view}
use Rattle.grok_commands.specs.Split.{IsPieceLine}
use Rattle.grok_commands.proofs.FirstAnswersHaveGoneOut.{answered_step}
use Rattle.grok_commands.proofs.split.hold_pieces.Goals as goal

pub pieces-preserved : goal.pieces-preserved
pieces-preserved g c =
    let sent : Appends (append_known (g.W.Write.contents c.pieces.output) c.pieces.held.items) (append_known (g.W.Write.contents c.hold.new.output) c.hold.new.held.items) (string_bytes c.in_ok-line.line) = rw c.as_bytes.ensures.value at c.in_ok-hold.ensures.ok in
    record {
      can_next = tt;
      is_finite = tt;
      answered = answered_step IsPieceLine (pieces c.args.pattern.now) c.pieces.piece-iterator c.next.new.self (piece_view c.in-Some.piece) _ _ _ (string_bytes c.in_ok-line.line)
          c.pieces.invariant.answered c.in-Some.ensures.steps c.in_ok-line.ensures sent;
    }

-- by one tactic, so that a wrong body is refused at once
pub returns-clause-ok : goal.returns-clause-ok
returns-clause-ok g c = search rules
