-- The parser's list of pieces is the only one that the grammar allows for the text.
use Rattle.std.proofs.Common.{◌≡◌, ℕ, suc, zero, ◌+◌, ◌-◌, ◌<◌, ◌≤◌, Bool, true, false, List, [], ◌∷◌, length, Result, Ok, Err, get_or, take, drop, refl, sym, ap, ◌∙◌, subst, arith, length-drop, drop-drop, ⊎_elim}
use Rattle.std.specs.List.{slice_range}
use Rattle.std.proofs.lemmas.List.{get_or_past}
use Rattle.std.proofs.lemmas.Bool.{cases_lt}
use Rattle.std.proofs.lemmas.Bool.Decides.{nat_tests}
use Rattle.grok_parser.specs.declared.malformed.GrokPatternError.{GrokPatternError}
use Rattle.grok_parser.specs.Pieces.{is_open, regular_len, Piece, Regular, Placeholder, Malformed, Parts, Inside, first_piece, placeholder_at, pieces_at, pieces}
use Rattle.grok_parser.specs.Grammar.{HasByteAt, IsOpenAt, IsRegularPiece, Plain, Last, Percent, IsPlaceholder, ArePieces}
use Rattle.grok_parser.proofs.FirstPieceAndRest.{pieces_at_next, pieces_at_end, inside_is_rest, regular_len_bounds}
use Rattle.grok_parser.proofs.RegularPieces.{regular_piece_is, regular_piece_only, head_is, second_is, drop_two_more}
use Rattle.grok_parser.proofs.WrittenPlaceholderIsRead.{placeholder_at_reads}
use Rattle.grok_parser.proofs.ReadPlaceholderIsWritten.{placeholder_at_found}
use Rattle.grok_parser.proofs.PlaceholderFaults.{fault_is_read, read_is_fault}

open_bytes : (text : List ℕ) → is_open text ≡ true → (get_or text 0 0 ≡ 37) × (get_or text 1 0 ≡ 123)
open_bytes text e = (grind (arith, nat_tests), grind (arith, nat_tests))

byte_within : (T : List ℕ) (i b : ℕ) → get_or T i 0 ≡ b → 0 < b → HasByteAt T i b
byte_within T i b e n = (⊎_elim (λ l. l) (λ l. absurd (omega (arith, sym (get_or_past T i 0 l) ∙ e))) (cases_lt i (length T)), e)

open_at : (T : List ℕ) (s : ℕ) → is_open (drop s T) ≡ true → IsOpenAt T s
open_at T s e = let h = open_bytes (drop s T) e in (byte_within T s 37 (sym (head_is T s) ∙ h.0) (omega arith), byte_within T (s + 1) 123 (sym (second_is T s) ∙ h.1) (omega arith))

pub open_from : (T : List ℕ) (s : ℕ) → IsOpenAt T s → is_open (drop s T) ≡ true
open_from T s h = rw (head_is T s ∙ h.0.1) (rw (second_is T s ∙ h.1.1) refl)

-- ---- the three ways a list of pieces goes on

step_by : (s : ℕ) (text : List ℕ) (p : Piece) (rest : List ℕ) (e : ℕ) → 0 < length text → p ≡ (first_piece s text).piece → rest ≡ (first_piece s text).rest → s + (length text - length rest) ≡ e → pieces_at s text ≡ p ∷ pieces_at e rest
step_by s text p rest e n hp hr same_end = pieces_at_next s text p rest (λ z. omega arith) hp hr ∙ ap (λ k. p ∷ pieces_at k rest) same_end

first_regular : (s : ℕ) (text : List ℕ) → is_open text ≡ false → first_piece s text ≡ record { piece = Regular s (s + regular_len text) (take (regular_len text) text); rest = drop (regular_len text) text }
unfolding first_piece
first_regular s text o = rw o refl

first_placeholder : (s : ℕ) (text : List ℕ) (i : Inside) → is_open text ≡ true → placeholder_at (drop 2 text) ≡ Ok i → first_piece s text ≡ record { piece = Placeholder s (s + (length text - length i.rest)) (take (length text - length i.rest) text) i.parts; rest = i.rest }
unfolding first_piece
first_placeholder s text i o r = rw o (rw r refl)

first_fault : (s : ℕ) (text : List ℕ) (f : GrokPatternError) → is_open text ≡ true → placeholder_at (drop 2 text) ≡ Err f → first_piece s text ≡ record { piece = Malformed f; rest = [] }
unfolding first_piece
first_fault s text f o r = rw o (rw r refl)

step_regular : (T : List ℕ) (s e : ℕ) → s < length T → is_open (drop s T) ≡ false → e ≡ s + regular_len (drop s T) → pieces_at s (drop s T) ≡ Regular s e (slice_range T s e) ∷ pieces_at e (drop e T)
step_regular T s e l o p =
    let len : length (drop s T) ≡ length T - s = length-drop s T in
    let b = regular_len_bounds (drop s T) (omega arith) in
    let n = regular_len (drop s T) in
    let first = first_regular s (drop s T) o in
    let count : e - s ≡ n = omega arith in
    let rest : drop n (drop s T) ≡ drop e T = drop-drop n s T ∙ ap (λ k. drop k T) (sym p) in
    let long : length (drop e T) ≡ length T - e = length-drop e T in
    let same : Regular s e (take (e - s) (drop s T)) ≡ Regular s (s + n) (take n (drop s T)) = ap (λ k. Regular s k (take (e - s) (drop s T))) p ∙ ap (λ k. Regular s (s + n) (take k (drop s T))) count in
    step_by s (drop s T) (Regular s e (slice_range T s e)) (drop e T) e (omega arith) (same ∙ sym (ap (λ f. f.piece) first)) (sym rest ∙ sym (ap (λ f. f.rest) first)) (omega arith)

step_placeholder : (T : List ℕ) (s e : ℕ) (p : Parts) → s < length T → is_open (drop s T) ≡ true → e ≤ length T → placeholder_at (drop (s + 2) T) ≡ Ok (record { parts = p; rest = drop e T }) → (s < e) × (pieces_at s (drop s T) ≡ Placeholder s e (slice_range T s e) p ∷ pieces_at e (drop e T))
step_placeholder T s e p l o w r =
    let len : length (drop s T) ≡ length T - s = length-drop s T in
    let long : length (drop e T) ≡ length T - e = length-drop e T in
    let i : Inside = record { parts = p; rest = drop e T } in
    let r' : placeholder_at (drop 2 (drop s T)) ≡ Ok i = ap placeholder_at (drop_two_more T s) ∙ r in
    let h = inside_is_rest (drop s T) i o r' in
    let shorter : length (drop e T) < length (drop s T) = h.shorter in
    let first = first_placeholder s (drop s T) i o r' in
    let m = length (drop s T) - length (drop e T) in
    let count : e - s ≡ m = omega arith in
    let same_end : s + m ≡ e = omega arith in
    let same : Placeholder s e (take (e - s) (drop s T)) p ≡ Placeholder s (s + m) (take m (drop s T)) p = ap (λ k. Placeholder s k (take (e - s) (drop s T)) p) (sym same_end) ∙ ap (λ k. Placeholder s (s + m) (take k (drop s T)) p) count in
    (omega arith, step_by s (drop s T) (Placeholder s e (slice_range T s e) p) (drop e T) e (omega arith) (same ∙ sym (ap (λ f. f.piece) first)) (sym (ap (λ f. f.rest) first)) same_end)

step_fault : (T : List ℕ) (s : ℕ) (f : GrokPatternError) → s < length T → is_open (drop s T) ≡ true → placeholder_at (drop (s + 2) T) ≡ Err f → pieces_at s (drop s T) ≡ Malformed f ∷ []
step_fault T s f l o r =
    let len : length (drop s T) ≡ length T - s = length-drop s T in
    let first = first_fault s (drop s T) f o (ap placeholder_at (drop_two_more T s) ∙ r) in
    step_by s (drop s T) (Malformed f) [] _ (omega arith) (sym (ap (λ f. f.piece) first)) (sym (ap (λ f. f.rest) first)) refl ∙ ap (λ ps. Malformed f ∷ ps) (pieces_at_end _ [] refl)

-- ---- the list that is computed is a list of the pieces

pub regular_within : (T : List ℕ) (s e : ℕ) → IsRegularPiece T s e → (s < e) × (e ≤ length T)
regular_within T s e (Plain l f) = let w = f.within in (l, w)
regular_within T s e (Last h a b) = (omega arith, omega arith)
regular_within T s e (Percent h l n m f) = let w = f.within in (omega arith, w)

pub placeholder_within : (T : List ℕ) (s e : ℕ) (p : Parts) → IsPlaceholder T s e p → (s < e) × (e ≤ length T)
placeholder_within T s e p h = ((step_placeholder T s e p h.opens.0.0 (open_from T s h.opens) h.within (placeholder_at_reads (drop (s + 2) T) p (drop e T) h.reads)).0, h.within)

-- the first piece and the others
same_list : (p q : Piece) (ps qs rs : List Piece) → p ≡ q → ps ≡ qs → rs ≡ q ∷ qs → (p ∷ ps) ≡ rs
same_list p q ps qs rs e f g = cc

pub pieces_only : (T : List ℕ) (s : ℕ) (items : List Piece) → s ≤ length T → ArePieces T s items → items ≡ pieces_at s (drop s T)
pieces_only T s [] l h = sym (pieces_at_end s (drop s T) (let len = length-drop s T in omega arith))
pieces_only T s (Regular a e text ∷ ps) l h =
    let b = regular_within T s e h.1 in
    let r = regular_piece_only T s e h.1 in
    let q : Regular a e text ≡ Regular s e (slice_range T s e) = ap (λ k. Regular k e text) h.0 ∙ ap (λ t. Regular s e t) h.2 in
    same_list _ _ ps (pieces_at e (drop e T)) _ q (pieces_only T e ps b.1 h.3) (step_regular T s e (omega arith) r.0 r.1)
pieces_only T s (Placeholder a e text parts ∷ ps) l h =
    let o = open_from T s h.1.opens in
    let r = placeholder_at_reads (drop (s + 2) T) parts (drop e T) h.1.reads in
    let step = step_placeholder T s e parts h.1.opens.0.0 o h.1.within r in
    let q : Placeholder a e text parts ≡ Placeholder s e (slice_range T s e) parts = ap (λ k. Placeholder k e text parts) h.0 ∙ ap (λ t. Placeholder s e t parts) h.2 in
    same_list _ _ ps (pieces_at e (drop e T)) _ q (pieces_only T e ps h.1.within h.3) step.1
pieces_only T s (Malformed f ∷ ps) l h =
    same_list _ _ ps [] _ refl h.0 (step_fault T s f h.1.0.0 (open_from T s h.1) (fault_is_read (drop (s + 2) T) f h.3))

-- a placeholder that is read lies where the grammar says
read_is_placeholder : (T : List ℕ) (s : ℕ) (i : Inside) → is_open (drop s T) ≡ true → placeholder_at (drop (s + 2) T) ≡ Ok i → (e : ℕ) × (e ≤ length T) × (i.rest ≡ drop e T)
read_is_placeholder T s i o r =
    let len : length (drop s T) ≡ length T - s = length-drop s T in
    let h = inside_is_rest (drop s T) i o (ap placeholder_at (drop_two_more T s) ∙ r) in
    let shorter = h.shorter in
    let m = length (drop s T) - length i.rest in
    (s + m, omega arith, h.is_end ∙ drop-drop m s T)

module _ (T : List ℕ) where
  pieces_are_open : (s : ℕ) → s < length T → ((e : ℕ) → s < e → e ≤ length T → ArePieces T e (pieces_at e (drop e T))) → is_open (drop s T) ≡ true → (r : Result Inside GrokPatternError) → placeholder_at (drop (s + 2) T) ≡ r → ArePieces T s (pieces_at s (drop s T))
  pieces_are_open s l more o (Ok i) r =
      let w = read_is_placeholder T s i o r in
      let r' : placeholder_at (drop (s + 2) T) ≡ Ok (record { parts = i.parts; rest = drop w.0 T }) = r ∙ ap (λ t. Ok (record { parts = i.parts; rest = t })) w.2 in
      let step = step_placeholder T s w.0 i.parts l o w.1 r' in
      let found = placeholder_at_found (drop (s + 2) T) (record { parts = i.parts; rest = drop w.0 T }) r' in
      subst (ArePieces T s) (sym step.1) (refl, record { opens = open_at T s o; within = w.1; reads = found }, refl, more w.0 step.0 w.1)
  pieces_are_open s l more o (Err f) r =
      subst (ArePieces T s) (sym (step_fault T s f l o r))
      (refl, open_at T s o, (λ e p h. let k = placeholder_at_reads (drop (s + 2) T) p (drop e T) h.reads in let both = sym k ∙ r in cc), read_is_fault (drop (s + 2) T) f r)

  pieces_are_some : (s : ℕ) → s < length T → ((e : ℕ) → s < e → e ≤ length T → ArePieces T e (pieces_at e (drop e T))) → (b : Bool) → is_open (drop s T) ≡ b → ArePieces T s (pieces_at s (drop s T))
  pieces_are_some s l more true o = pieces_are_open s l more o (placeholder_at (drop (s + 2) T)) refl
  pieces_are_some s l more false o =
      let r = regular_piece_is T s l o in
      let b = regular_within T s (s + regular_len (drop s T)) r in
      subst (ArePieces T s) (sym (step_regular T s (s + regular_len (drop s T)) l o refl)) (refl, r, refl, more _ b.0 b.1)

  pieces_are_end : (s : ℕ) → s ≡ length T → ArePieces T s (pieces_at s (drop s T))
  pieces_are_end s e = subst (ArePieces T s) (sym (pieces_at_end s (drop s T) (let len = length-drop s T in omega arith))) e

  pieces_are_by : (n s : ℕ) → s ≤ length T → length T ≤ s + n → ArePieces T s (pieces_at s (drop s T))
  pieces_are_by zero s l m = pieces_are_end s (omega arith)
  pieces_are_by (suc n) s l m =
      ⊎_elim (λ h. pieces_are_some s h (λ e a b. pieces_are_by n e b (omega arith)) (is_open (drop s T)) refl) (λ h. pieces_are_end s (omega arith)) (cases_lt s (length T))

-- each text has its pieces
pub pieces_are : (T : List ℕ) → ArePieces T 0 (pieces T)
pieces_are T = pieces_are_by T (length T) 0 (omega arith) (omega arith)

-- and no others
pub pieces_are_only : (T : List ℕ) (items : List Piece) → ArePieces T 0 items → items ≡ pieces T
pieces_are_only T items h = pieces_only T 0 items (omega arith) h

pub ruleset split = (pieces_are, pieces_are_only)
