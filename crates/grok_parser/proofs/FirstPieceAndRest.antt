-- The pieces of a text are its first piece and the pieces of the rest.
use Rattle.std.proofs.Common.{◌≡◌, ℕ, suc, zero, ◌+◌, ◌-◌, ◌<◌, ◌≤◌, Bool, true, false, List, [], ◌∷◌, ◌++◌, length, Result, Ok, Err, slice_index, take, drop, refl, sym, append-nil, ap, ◌∙◌, subst, arith, length-append, length-take, length-drop}
use Rattle.std.proofs.lemmas.List.{take-append-drop}
use Rattle.std.proofs.lemmas.List.Prefix.{end_rest}
use Rattle.std.proofs.lemmas.Bool.{eqb-true}
use Rattle.std.proofs.lemmas.Bool.Decides.{nat_tests}
use Rattle.grok_parser.specs.declared.malformed.GrokPatternError.{GrokPatternError}
use Rattle.grok_parser.specs.Pieces.{is_percent, regular_skip, regular_len, Piece, Inside, after_open, is_open, placeholder_at, first_piece, pieces_after, pieces_at}
use Rattle.grok_parser.specs.steps.Rest.{IsRest}
use Rattle.std.specs.Str.{IsUtf8, IsCharBoundary}
use Rattle.std.proofs.lemmas.Str.{IsCharBoundary-from_drop}
use Rattle.grok_parser.proofs.RunsEndAtBoundaries.{position_or_len-le}
use Rattle.grok_parser.proofs.TextBeginsWithOpening.{is_open_split}
use Rattle.grok_parser.proofs.RestIsSuffix.{EndsWith, placeholder_at_rest}

pub IsRest-from_front : (text front rest : List ℕ) → text ≡ front ++ rest → 0 < length front → IsRest text rest
IsRest-from_front text front rest e n =
    record { shorter = let l : length text ≡ length front + length rest = ap length e ∙ length-append front rest in omega arith; is_end = sym (end_rest text rest front e) }

pub regular_skip_bounds : (text : List ℕ) → 0 < length text → (regular_skip text ≤ length text) × (slice_index text 0 ≡ 37 → 0 < regular_skip text)
unfolding regular_skip
regular_skip_bounds text n = (grind (arith, nat_tests), λ e. grind (arith, nat_tests))

regular_skip_none : (text : List ℕ) → is_percent (slice_index text 0) ≡ false → regular_skip text ≡ 0
unfolding regular_skip
regular_skip_none text e = rw e refl

pub regular_len_bounds : (text : List ℕ) → 0 < length text → (0 < regular_len text) × (regular_len text ≤ length text)
unfolding regular_len
regular_len_bounds [] n = absurd (omega arith)
regular_len_bounds (a ∷ bs) n =
    let text : List ℕ = a ∷ bs in
    let skip = regular_skip_bounds text n in
    let le = position_or_len-le is_percent (drop (regular_skip text) text) in
    let len = length-drop (regular_skip text) text in
    (by_test (is_percent a) refl, omega arith)
  where
    by_test : (t : Bool) → is_percent a ≡ t → 0 < regular_len (a ∷ bs)
    by_test true e = let skip = (regular_skip_bounds (a ∷ bs) n).1 (eqb-true a 37 e) in omega arith
    by_test false e = rw (regular_skip_none (a ∷ bs) e) (rw e (omega arith))

first_open : (at : ℕ) (text : List ℕ) (r : Result Inside GrokPatternError) → ((i : Inside) → r ≡ Ok i → EndsWith (drop 2 text) i.rest) → text ≡ 37 ∷ 123 ∷ drop 2 text → IsRest text (after_open at text r).rest
first_open at text (Ok i) h e = let w = h i refl in IsRest-from_front text (37 ∷ 123 ∷ w.front) i.rest (e ∙ ap (λ s. 37 ∷ 123 ∷ s) w.whole) (omega arith)
first_open at text (Err f) h e = IsRest-from_front text text [] (sym (append-nil text)) (let l = ap length e in omega arith)

pub first_piece_rest : (at : ℕ) (text : List ℕ) → 0 < length text → IsRest text (first_piece at text).rest
unfolding first_piece
first_piece_rest at text n = by_test (is_open text) refl
  where
    by_test : (b : Bool) → is_open text ≡ b → IsRest text (first_piece at text).rest
    by_test true e = rw e (first_open at text (placeholder_at (drop 2 text)) (placeholder_at_rest (drop 2 text)) (is_open_split text e))
    by_test false e = rw e (let h = regular_len_bounds text n in IsRest-from_front text (take (regular_len text) text) (drop (regular_len text) text) (sym (take-append-drop (regular_len text) text)) (omega (arith, length-take (regular_len text) text)))

-- bytes that are skipped
pub pieces_after_skip : (k at : ℕ) (text : List ℕ) → pieces_after k at text ≡ pieces_after 0 (at + k) (drop k text)
unfolding pieces_after
pieces_after_skip zero at text = ap (λ n. pieces_after 0 n text) (omega arith)
pieces_after_skip (suc k) at [] = refl
pieces_after_skip (suc k) at (b ∷ bs) = pieces_after_skip k (at + 1) bs ∙ ap (λ n. pieces_after 0 n (drop k bs)) (omega arith)

pub pieces_at_step : (at : ℕ) (text : List ℕ) → 0 < length text → pieces_at at text ≡ (first_piece at text).piece ∷ pieces_at (at + (length text - length (first_piece at text).rest)) (first_piece at text).rest
unfolding pieces_after
pieces_at_step at [] n = absurd (omega arith)
pieces_at_step at (b ∷ bs) n =
    let f = first_piece at (b ∷ bs) in
    let h = first_piece_rest at (b ∷ bs) n in
    let m = length bs - length f.rest in
    let more : length (b ∷ bs) - length f.rest ≡ suc m = let l = h.shorter in omega arith in
    let last : f.rest ≡ drop m bs = h.is_end ∙ ap (λ n. drop n (b ∷ bs)) more in
    let position : (at + 1) + m ≡ at + (length (b ∷ bs) - length f.rest) = omega arith in
    ap (λ ps. f.piece ∷ ps) (pieces_after_skip m (at + 1) bs ∙ (ap (λ n. pieces_after 0 n (drop m bs)) position ∙ ap (λ xs. pieces_after 0 (at + (length (b ∷ bs) - length f.rest)) xs) (sym last)))

pub pieces_at_end : (at : ℕ) (text : List ℕ) → length text ≡ 0 → pieces_at at text ≡ []
unfolding pieces_after
pieces_at_end at [] e = refl
pieces_at_end at (b ∷ bs) e = absurd (omega arith)

pub inside_is_rest : (text : List ℕ) (i : Inside) → is_open text ≡ true → placeholder_at (drop 2 text) ≡ Ok i → IsRest text i.rest
inside_is_rest text i o e = first_open 0 text (Ok i) (λ j f. placeholder_at_rest (drop 2 text) j (e ∙ f)) (is_open_split text o)

pub IsCharBoundary-rest : (text rest : List ℕ) → IsUtf8 rest → IsRest text rest → IsCharBoundary text (length text - length rest)
IsCharBoundary-rest text rest u h = IsCharBoundary-from_drop text (length text - length rest) (omega arith) (subst IsUtf8 h.is_end u)

pub ruleset rests = (IsCharBoundary-rest, inside_is_rest)

pub pieces_at_next : (at : ℕ) (text : List ℕ) (p : Piece) (rest : List ℕ) → ¬ (length text ≡ 0) → p ≡ (first_piece at text).piece → rest ≡ (first_piece at text).rest → pieces_at at text ≡ p ∷ pieces_at (at + (length text - length rest)) rest
pieces_at_next at text p rest n e f = rw e (rw f (pieces_at_step at text (omega arith)))
