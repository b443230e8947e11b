-- The regular pieces that the parser reads are those of the grammar.
use Rattle.std.proofs.Common.{◌≡◌, ◌≢◌, ℕ, ◌+◌, ◌-◌, ◌<◌, ◌≤◌, Bool, true, false, List, length, get_or, drop, refl, sym, ap, ◌∙◌, arith, length-drop, drop-drop, ◌⊎◌, inl, inr, ⊎_elim}
use Rattle.std.specs.List.{position_or_len}
use Rattle.std.proofs.lemmas.List.{get_or-drop, get_or_past}
use Rattle.std.proofs.lemmas.List.Sums.{fails_before_first, passes_at_first, position_or_len_is}
use Rattle.std.proofs.lemmas.Bool.{eqb-true, cases_lt, false≢true}
use Rattle.std.proofs.lemmas.Bool.Decides.{nat_tests}
use Rattle.grok_parser.specs.Pieces.{is_percent, regular_skip, regular_len, is_open}
use Rattle.grok_parser.specs.Grammar.{IsPercentFree, IsRegularPiece, Plain, Last, Percent}
use Rattle.grok_parser.proofs.RunsEndAtBoundaries.{position_or_len-le}
use Rattle.grok_parser.proofs.FirstPieceAndRest.{regular_len_bounds}

percent_no : (b : ℕ) → is_percent b ≡ false → b ≢ 37
percent_no b e = grind (arith, nat_tests)

percent_not : (b : ℕ) → b ≢ 37 → is_percent b ≡ false
percent_not b e = grind (arith, nat_tests)

-- where the run of other bytes ends
pub run_end : (T : List ℕ) (i : ℕ) → i ≤ length T → IsPercentFree T i (i + position_or_len is_percent (drop i T))
run_end T i h =
    let n = position_or_len is_percent (drop i T) in
    let le : n ≤ length (drop i T) = position_or_len-le is_percent (drop i T) in
    let len : length (drop i T) ≡ length T - i = length-drop i T in
    record {
      within = omega arith;
      free = λ k l m. let j = k - i in
          let at : get_or (drop i T) j 0 ≡ get_or T (i + j) 0 = get_or-drop i T j 0 in
          let same : i + j ≡ k = omega arith in
          let no : get_or (drop i T) j 0 ≢ 37 = percent_no _ (fails_before_first is_percent (drop i T) j 0 (omega arith)) in
          λ e. no ((at ∙ ap (λ x. get_or T x 0) same) ∙ e);
      ends = ⊎_elim (λ l. inr (omega arith, sym (get_or-drop i T n 0) ∙ eqb-true _ 37 (passes_at_first is_percent (drop i T) 0 l))) (λ l. inl (omega arith)) (cases_lt n (length (drop i T)));
    }

pub run_only : (T : List ℕ) (i e : ℕ) → i ≤ e → IsPercentFree T i e → e ≡ i + position_or_len is_percent (drop i T)
run_only T i e h f =
    let len : length (drop i T) ≡ length T - i = length-drop i T in
    let m = e - i in
    let w = f.within in
    let n : position_or_len is_percent (drop i T) ≡ m =
    position_or_len_is is_percent (drop i T) m 0 (omega arith)
    (λ k l. rw (get_or-drop i T k 0) (percent_not _ (f.free (i + k) (omega arith) (omega arith))))
    (λ l. rw (get_or-drop i T m 0) (let same : i + m ≡ e = omega arith in rw same (⊎_elim (λ g. absurd (omega arith)) (λ g. rw g.1 refl) f.ends))) in
    omega arith

skip_none : (text : List ℕ) → get_or text 0 0 ≢ 37 → regular_skip text ≡ 0
unfolding regular_skip
skip_none text n = rw (percent_not _ n) refl

skip_one : (text : List ℕ) → get_or text 0 0 ≡ 37 → length text ≡ 1 → regular_skip text ≡ 1
unfolding regular_skip
skip_one text e l = rw e (rw l refl)

skip_two : (text : List ℕ) → get_or text 0 0 ≡ 37 → 1 < length text → regular_skip text ≡ 2
unfolding regular_skip
skip_two text e l = grind (arith, nat_tests)

len_plain : (text : List ℕ) → get_or text 0 0 ≢ 37 → regular_len text ≡ position_or_len is_percent text
unfolding regular_len
len_plain text n = rw (skip_none text n) (omega arith)

len_last : (text : List ℕ) → get_or text 0 0 ≡ 37 → length text ≡ 1 → regular_len text ≡ 1
unfolding regular_len
len_last text e l = rw (skip_one text e l) (let le = position_or_len-le is_percent (drop 1 text) in let d = length-drop 1 text in omega arith)

len_percent : (text : List ℕ) → get_or text 0 0 ≡ 37 → 1 < length text → regular_len text ≡ 2 + position_or_len is_percent (drop 2 text)
unfolding regular_len
len_percent text e l = rw (skip_two text e l) refl

not_open_plain : (text : List ℕ) → get_or text 0 0 ≢ 37 → is_open text ≡ false
not_open_plain text n = grind (arith, nat_tests)

not_open_other : (text : List ℕ) → get_or text 1 0 ≢ 123 → is_open text ≡ false
not_open_other text n = grind (arith, nat_tests)

other_from_not_open : (text : List ℕ) → get_or text 0 0 ≡ 37 → is_open text ≡ false → get_or text 1 0 ≢ 123
other_from_not_open text e o = λ f. false≢true (sym o ∙ rw e (rw f refl))

module _ (T : List ℕ) (s : ℕ) where
  pub head_is : get_or (drop s T) 0 0 ≡ get_or T s 0
  head_is = get_or-drop s T 0 0 ∙ ap (λ k. get_or T k 0) (omega arith)

  pub second_is : get_or (drop s T) 1 0 ≡ get_or T (s + 1) 0
  second_is = get_or-drop s T 1 0

  pub drop_two_more : drop 2 (drop s T) ≡ drop (s + 2) T
  drop_two_more = drop-drop 2 s T

regular_two : (T : List ℕ) (s : ℕ) → s < length T → get_or (drop s T) 0 0 ≡ 37 → is_open (drop s T) ≡ false → (length (drop s T) ≤ 1) ⊎ (1 < length (drop s T)) → IsRegularPiece T s (s + regular_len (drop s T))
regular_two T s h e o (inl l) =
    let len : length (drop s T) ≡ length T - s = length-drop s T in
    rw (len_last (drop s T) e (omega arith)) (Last (h, sym (head_is T s) ∙ e) refl (omega arith))
regular_two T s h e o (inr l) =
    let len : length (drop s T) ≡ length T - s = length-drop s T in
    let r = run_end T (s + 2) (omega arith) in
    let n = other_from_not_open (drop s T) e o in
    let position : s + (2 + position_or_len is_percent (drop (s + 2) T)) ≡ (s + 2) + position_or_len is_percent (drop (s + 2) T) = omega arith in
    rw (len_percent (drop s T) e l) (rw (drop_two_more T s) (rw position (Percent (h, sym (head_is T s) ∙ e) (omega arith) (λ f. n (second_is T s ∙ f)) (omega arith) r)))

regular_one : (T : List ℕ) (s : ℕ) → s < length T → is_open (drop s T) ≡ false → (b : Bool) → is_percent (get_or (drop s T) 0 0) ≡ b → IsRegularPiece T s (s + regular_len (drop s T))
regular_one T s h o true e = regular_two T s h (eqb-true _ 37 e) o (⊎_elim (λ l. inr l) (λ l. inl l) (cases_lt 1 (length (drop s T))))
regular_one T s h o false e =
    let len : length (drop s T) ≡ length T - s = length-drop s T in
    let plain = len_plain (drop s T) (percent_no _ e) in
    let some = (regular_len_bounds (drop s T) (omega arith)).0 in
    rw plain (Plain (omega arith) (run_end T s (omega arith)))

pub regular_piece_is : (T : List ℕ) (s : ℕ) → s < length T → is_open (drop s T) ≡ false → IsRegularPiece T s (s + regular_len (drop s T))
regular_piece_is T s h o = regular_one T s h o (is_percent (get_or (drop s T) 0 0)) refl

past_end : (xs : List ℕ) (i : ℕ) → length xs ≤ i → get_or xs i 0 ≡ 0
past_end xs i l = get_or_past xs i 0 l

pub regular_piece_only : (T : List ℕ) (s e : ℕ) → IsRegularPiece T s e → (is_open (drop s T) ≡ false) × (e ≡ s + regular_len (drop s T))
regular_piece_only T s e (Plain l f) =
    let n : get_or (drop s T) 0 0 ≢ 37 = λ g. f.free s (omega arith) l (sym (head_is T s) ∙ g) in
    (not_open_plain (drop s T) n, run_only T s e (omega arith) f ∙ ap (λ k. s + k) (sym (len_plain (drop s T) n)))
regular_piece_only T s e (Last h a b) =
    let len = length-drop s T in
    let first : get_or (drop s T) 0 0 ≡ 37 = head_is T s ∙ h.1 in
    let last : get_or T (s + 1) 0 ≡ 0 = past_end T (s + 1) (omega arith) in
    let other : get_or (drop s T) 1 0 ≢ 123 = λ g. (omega (arith, sym last ∙ (sym (second_is T s) ∙ g))) in
    (not_open_other (drop s T) other, a ∙ ap (λ k. s + k) (sym (len_last (drop s T) first (omega arith))))
regular_piece_only T s e (Percent h l n m f) =
    let len : length (drop s T) ≡ length T - s = length-drop s T in
    let first : get_or (drop s T) 0 0 ≡ 37 = head_is T s ∙ h.1 in
    let whole = run_only T (s + 2) e m f in
    let other : get_or (drop s T) 1 0 ≢ 123 = λ g. n (sym (second_is T s) ∙ g) in
    let count : regular_len (drop s T) ≡ 2 + position_or_len is_percent (drop (s + 2) T) = len_percent (drop s T) first (omega arith) ∙ ap (λ xs. 2 + position_or_len is_percent xs) (drop_two_more T s) in
    (not_open_other (drop s T) other, omega arith)
