-- A list of spans stays right if one more is appended.
use Rattle.std.proofs.Common.{◌≡◌, ℕ, List, [], ◌∷◌, ◌++◌, map, suc, sym, ap, ◌∙◌, append_assoc, arith}
use Rattle.std.specs.List.{All}
use Rattle.std.proofs.lemmas.List.{map-append}
use Rattle.grok.specs.declared.defs.spans.Span.{Span}
use Rattle.grok_parser.specs.Pieces.{Piece}
use Rattle.grok.specs.steps.Spans.{piece_in}

pub one_more : (T : List ℕ) (spans : List Span) (span : Span) (p : Piece) (items rest all : List Piece) → map (piece_in T) spans ++ items ≡ all → items ≡ p ∷ rest → piece_in T span ≡ p → map (piece_in T) (spans ++ span ∷ []) ++ rest ≡ all
one_more T spans span p items rest all h e is =
    ap (λ xs. xs ++ rest) (map-append (piece_in T) spans (span ∷ []) ∙ ap (λ q. map (piece_in T) spans ++ q ∷ []) is)
    ∙ (append_assoc (map (piece_in T) spans) (p ∷ []) rest ∙ (ap (λ xs. map (piece_in T) spans ++ xs) (sym e) ∙ h))

pub All-later : {X : Type 0} (P : X → Type 0) (x : X) (xs : List X) → All P (x ∷ xs) → All P xs
All-later P x xs h = λ k d l. h (suc k) d (omega arith)
