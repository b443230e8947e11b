-- The bytes before the first line feed of a list are a line, and a list without a line feed is one as a whole.
use Rattle.std.proofs.Common.{◌≡◌, ℕ, zero, suc, Bool, true, false, List, [], ◌∷◌, ◌++◌, ◌==◌, ◌<◌, ◌≤◌, ◌+◌, ◌-◌, length, take, drop, refl, sym, ap, ◌∙◌, arith, slice_index, length-drop}
use Rattle.std.proofs.Math.Seq.{take-length}
use Rattle.std.proofs.lemmas.List.{drop_more, take-append-drop}
use Rattle.std.proofs.lemmas.Bool.{eqb-true}
use Rattle.memchr.specs.Find.{Nowhere, Passes, is_byte}
use Rattle.grok_lines.specs.Lines.{IsLine}

pub not_true : (t : Bool) → (t ≡ true → ⊥) → t ≡ false
not_true true h = absurd (h refl)
not_true false h = refl

pub line_below : (hay : List ℕ) (n : ℕ) → ((k : ℕ) → k < n → ¬ ((slice_index hay k == 10) ≡ true)) → IsLine (take n hay)
line_below hay zero f = tt
line_below [] (suc n) f = tt
line_below (x ∷ hay) (suc n) f = (not_true (x == 10) (f 0 (omega arith)), line_below hay n (λ k lt. f (suc k) (omega arith)))

pub line_none : (hay : List ℕ) → Nowhere (Passes (is_byte 10) hay) 0 (length hay) → IsLine hay
line_none hay h = let e : take (length hay) hay ≡ hay = take-length hay in
    rw e at (line_below hay (length hay) (λ k lt. h k (omega arith) lt))

tail_whole : (hay : List ℕ) (i : ℕ) → i ≤ length hay → take (length hay - i) (drop i hay) ≡ drop i hay
tail_whole hay i h = rw (← length-drop i hay) (take-length (drop i hay))

pub line_cut : (hay : List ℕ) (k : ℕ) → k < length hay → Nowhere (Passes (is_byte 10) hay) 0 k → Passes (is_byte 10) hay k
    → IsLine (take k hay) × (hay ≡ take k hay ++ 10 ∷ take (length hay - (k + 1)) (drop (k + 1) hay))
line_cut hay k lt f h =
    let b : slice_index hay k ≡ 10 = eqb-true (slice_index hay k) 10 h in
    let e : drop k hay ≡ 10 ∷ drop (k + 1) hay = drop_more hay k 0 lt ∙ ap (λ v. v ∷ drop (k + 1) hay) b in
    let w : take (length hay - (k + 1)) (drop (k + 1) hay) ≡ drop (k + 1) hay = tail_whole hay (k + 1) (omega arith) in
    (line_below hay k (λ j lt. f j (omega arith) lt), rw w (sym (take-append-drop k hay) ∙ ap (λ v. take k hay ++ v) e))
