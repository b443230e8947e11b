use Rattle.std.proofs.Common.{◌≡◌, ◌∷◌, subst}
use Rattle.std.specs.List.{All}
use Rattle.grok.specs.steps.Spans.{IsSpanOf}
use Rattle.grok.specs.steps.Sources.{IsSource}
use Rattle.grok.proofs.Pieces.OneMoreSpan.{All-later}
use Rattle.grok.proofs.defs.pieces.PiecesIterator.next.Goals as goal
use Rattle.grok.proofs.defs.pieces.PiecesIterator.next.Goals.{in-Split, in-Kept+in_ok-first-in-Kept}

pub invariant_of-self-2 : goal.invariant_of-self-2
invariant_of-self-2 c =
    elim c.match-self.branch [
      | in-Split w ↦ rw w.self-inside-is tt
      | in-Kept+in_ok-first-in-Kept w ↦
          let all : All (IsSpanOf w.in-Kept.text.now) w.in-Kept.spans.now = subst IsSource w.in-Kept.is c.self.invariant in
          let cut : w.in-Kept.spans.now ≡ w.in_ok-first-in-Kept.first.now ∷ w.in_ok-first-in-Kept.rest.now = w.in_ok-first-in-Kept.ensures.cases.0 in
          rw w.self-inside-is (All-later (IsSpanOf w.in-Kept.text.now) w.in_ok-first-in-Kept.first.now w.in_ok-first-in-Kept.rest.now (subst (All (IsSpanOf w.in-Kept.text.now)) cut all))
    ]
