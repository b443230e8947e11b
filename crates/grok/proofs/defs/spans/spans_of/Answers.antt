use Rattle.std.proofs.Common.{◌≡◌, ◌∷◌, subst}
use Rattle.std.specs.List.{All}
use Rattle.std.proofs.lemmas.List.Elements.{All-nil, All-push}
use Rattle.grok_parser.specs.Pieces.{pieces}
use Rattle.grok_parser.specs.Views.{piece_view}
use Rattle.grok.specs.steps.Spans.{IsSpanOf, IsPieceOf}
use Rattle.grok.proofs.Pieces.PartsEndAtBoundaries.{pieces_stand}
use Rattle.grok.proofs.Pieces.OneMoreSpan.{one_more, All-later}
use Rattle.grok.proofs.defs.spans.spans_of.Goals as goal

pub loop-piece-init : goal.loop-piece-init
loop-piece-init c =
    let e : c.into_iter-piece-iterator.result ≡ pieces c.args.text.now = cc in
    record {
      reads = rw c.new-spans.ensures.items e;
      within = rw c.new-spans.ensures.items (All-nil (IsSpanOf c.args.text.now));
      left = rw e (pieces_stand c.args.text.now c.utf8.text);
    }

pub loop-piece-preserved : goal.loop-piece-preserved
loop-piece-preserved c =
    let e : c.loop-piece.piece-iterator ≡ piece_view c.in-Some.piece ∷ c.next.new.self = c.in-Some.ensures.steps in
    record {
      reads = rw c.in_ok-push.ensures.items (one_more c.args.text.now _ c.span_of.result _ _ c.next.new.self _ c.loop-piece.invariant.reads e c.span_of.ensures.reads);
      within = rw c.in_ok-push.ensures.items (All-push (IsSpanOf c.args.text.now) _ _ c.loop-piece.invariant.within c.span_of.ensures.is);
      left = All-later (IsPieceOf c.args.text.now) _ _ (subst (All (IsPieceOf c.args.text.now)) e c.loop-piece.invariant.left);
    }
