use Rattle.std.proofs.Common.{◌≡◌, ◌⊎◌, ◌+◌, ◌-◌, ◌<◌, ℕ, List, Bool, true, false, inl, inr, subst, length, ◌∙◌, arith}
use Rattle.regex_beginnings.specs.declared.pieces.Piece.{Piece}
use Rattle.regex_beginnings.specs.Finds.{IsAnswer, FindsNothingIn}
use Rattle.regex_beginnings.specs.Pieces.{beginning_text}
use Rattle.regex_beginnings.specs.Beginnings.{pieces_of}
use Rattle.regex_beginnings.proofs.beginnings.Beginnings.longest.Goals as goal

-- an answer for the pieces before a call is one for those after it, which are the same
for_pieces : (old new : List Piece) (count : ℕ) (line : List ℕ) (b answer : Bool) → IsAnswer (beginning_text old count) line b → b ≡ answer
    → old ≡ new → IsAnswer (beginning_text new count) line answer
for_pieces old new count line b answer is e same =
    subst (λ pieces. IsAnswer (beginning_text pieces count) line answer) same (subst (IsAnswer (beginning_text old count) line) e is)

-- where the two counts are neighbours, the greater one is that with the next piece
next_of : (P : ℕ → Type 0) (count too_many most : ℕ) → too_many ≡ count + 1 → (too_many ≡ most + 1) ⊎ P too_many → (count ≡ most) ⊎ P (count + 1)
next_of P count too_many most e (inl all) = inl (omega (arith, e, all))
next_of P count too_many most e (inr next) = inr (subst P e next)

pub halves-preserved-then-branch : goal.halves-preserved-then-branch
halves-preserved-then-branch c = record {
  same = c.in_ok-finds.ensures.same ∙ c.halves.invariant.same;
  finds = inr (for_pieces _ _ _ _ _ true c.in_ok-finds.ensures.answer c.if-branch.true c.halves.invariant.same);
  next = c.halves.invariant.next;
  order = omega arith;
  most = c.halves.invariant.most;
}

pub halves-preserved : goal.halves-preserved
halves-preserved c = record {
  same = c.in_ok-finds.ensures.same ∙ c.halves.invariant.same;
  finds = c.halves.invariant.finds;
  next = inr (for_pieces _ _ _ _ _ false c.in_ok-finds.ensures.answer c.if-branch.false c.halves.invariant.same);
  order = omega arith;
  most = omega arith;
}

pub returns-clause-longest : goal.returns-clause-longest
returns-clause-longest c =
    let e : c.halves.too_many ≡ c.halves.count + 1 = omega arith in
    record {
      finds = c.halves.invariant.finds;
      next = next_of (λ n. FindsNothingIn (beginning_text (pieces_of c.args.self.now) n) c.args.line.now) _ _ _ e c.halves.invariant.next;
      most = omega (arith, e);
    }
