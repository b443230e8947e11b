-- Each line feed of a list ends one line, and what follows the last one is the unended line.
use Rattle.std.proofs.Common.{◌≡◌, ℕ, zero, suc, List, [], ◌∷◌, ◌++◌, ◌<◌, ◌≤◌, ◌+◌, ◌-◌, inl, inr, length, take, drop, sym, ap, ◌∙◌, arith, slice_index}
use Rattle.std.proofs.lemmas.Bool.{cases_Bool, cases_eq, eqb-true}
use Rattle.std.proofs.lemmas.List.{get_or-drop, drop-drop, drop_more, take_more, take-append-drop, take_rest, append-nil}
use Rattle.memchr.specs.Find.{Nowhere, NoneBefore, Passes, is_byte, places_from, places_between}
use Rattle.grok_lines.specs.Lines.{IsLine, ended_lines_of, unended_of}
use Rattle.grok_lines.proofs.LineEndsAtLineFeed.{line_below, line_none}
use Rattle.grok_lines.proofs.LinesOfTwoParts.{ended-append, unended-append, ended-none, unended-none, unended-line}
use Rattle.grok_lines.proofs.LineLaws.{no_line_holds_a_line_feed}

-- the first of the positions, and the positions after it
first-position : (hay : List ℕ) (i n p : ℕ) (ps : List ℕ) → places_from (is_byte 10) hay i n ≡ p ∷ ps
    → NoneBefore (Passes (is_byte 10) hay) i (i + n) p × Passes (is_byte 10) hay p × (ps ≡ places_from (is_byte 10) hay (p + 1) (i + n - (p + 1)))
unfolding places_from
first-position hay i zero p ps h = cc
first-position hay i (suc n) p ps h =
    elim (cases_Bool (is_byte 10 (slice_index hay i))) [
      | inl feeds ↦
          let is : i ∷ places_from (is_byte 10) hay (i + 1) n ≡ p ∷ ps = rw feeds at h in
          let first : i ≡ p = cc in
          let later : places_from (is_byte 10) hay (i + 1) n ≡ ps = cc in
          let left : i + suc n - (p + 1) ≡ n = omega (arith, first) in (
            record { low = omega (arith, first); high = omega (arith, first); before = λ k a b. absurd (omega (arith, first)) },
            rw (← first) feeds,
            rw (left, ← first) (sym later),
          )
      | inr other_byte ↦
          let is : places_from (is_byte 10) hay (i + 1) n ≡ p ∷ ps = rw other_byte at h in
          let more = first-position hay (i + 1) n p ps is in
          let none = more.0 in
          let same : i + 1 + n ≡ i + suc n = omega arith in (
            record {
              low = omega (arith, none.low);
              high = omega (arith, none.high);
              before = λ k a b passes. elim (cases_eq k i) [
                | inl here ↦ let is_i = rw here at passes in cc
                | inr other ↦ none.before k (omega arith) b passes
              ];
            },
            more.1,
            rw (← same) more.2,
          )
    ]

no-position : (hay : List ℕ) (i n : ℕ) → places_from (is_byte 10) hay i n ≡ [] → Nowhere (Passes (is_byte 10) hay) i (i + n)
unfolding places_from
no-position hay i zero h = λ k a b. absurd (omega arith)
no-position hay i (suc n) h =
    elim (cases_Bool (is_byte 10 (slice_index hay i))) [
      | inl feeds ↦ let is = rw feeds at h in cc
      | inr other_byte ↦
          let more = no-position hay (i + 1) n (rw other_byte at h) in
          λ k a b passes. elim (cases_eq k i) [
            | inl here ↦ let is_i = rw here at passes in cc
            | inr other ↦ more k (omega arith) (omega arith) passes
          ]
    ]

line-between : (hay : List ℕ) (i n : ℕ) → Nowhere (Passes (is_byte 10) hay) i (i + n) → IsLine (take n (drop i hay))
line-between hay i n f = line_below (drop i hay) n (λ k lt. rw (get_or-drop i hay k 0) (f (i + k) (omega arith) (omega arith)))

-- There is a line feed at p, the line from i on ends there, and the line feeds after it are ps.
pub record EndsLine (hay : List ℕ) (i p : ℕ) (ps : List ℕ) : Type 0 where
  pub low : i ≤ p
  pub high : p < length hay
  pub feed : slice_index hay p ≡ 10
  pub line : IsLine (take (p - i) (drop i hay))
  pub cut : drop i hay ≡ take (p - i) (drop i hay) ++ 10 ∷ drop (p + 1) hay
  pub later : ps ≡ places_between (is_byte 10) hay (p + 1) (length hay)

pub next_line : (hay : List ℕ) (i p : ℕ) (ps : List ℕ) → i ≤ length hay → places_between (is_byte 10) hay i (length hay) ≡ p ∷ ps → EndsLine hay i p ps
next_line hay i p ps le h =
    let whole : i + (length hay - i) ≡ length hay = omega arith in
    let found = first-position hay i (length hay - i) p ps h in
    let none = found.0 in
    let low : i ≤ p = none.low in
    let high : p < length hay = omega (arith, none.high) in
    let feed : slice_index hay p ≡ 10 = eqb-true (slice_index hay p) 10 found.1 in
    let there : i + (p - i) ≡ p = omega arith in
    let rest : drop (p - i) (drop i hay) ≡ 10 ∷ drop (p + 1) hay = drop-drop (p - i) i hay ∙ ap (λ k. drop k hay) there ∙ drop_more hay p 0 high ∙ ap (λ v. v ∷ drop (p + 1) hay) feed in
    record {
      low = low;
      high = high;
      feed = feed;
      line = line-between hay i (p - i) (λ k a b. none.before k a (omega arith));
      cut = sym (take-append-drop (p - i) (drop i hay)) ∙ ap (λ v. take (p - i) (drop i hay) ++ v) rest;
      later = rw (← whole) found.2;
    }

pub no_line : (hay : List ℕ) (i : ℕ) → i ≤ length hay → places_between (is_byte 10) hay i (length hay) ≡ [] → IsLine (drop i hay)
no_line hay i le h = rw (← take_rest hay i) (line-between hay i (length hay - i) (no-position hay i (length hay - i) h))

-- ---- the last line feed

unended-feed : (front : List ℕ) → unended_of (front ++ 10 ∷ []) ≡ []
unended-feed front = unended-append front (10 ∷ []) ∙ unended-line (unended_of front) [] (no_line_holds_a_line_feed front).1

ended-before : (lines rest : List ℕ) → unended_of lines ≡ [] → IsLine rest
    → (ended_lines_of lines ≡ ended_lines_of (lines ++ rest)) × (rest ≡ unended_of (lines ++ rest))
ended-before lines rest e is =
    let ended : ended_lines_of (lines ++ rest) ≡ ended_lines_of lines ++ ended_lines_of rest = ended-append lines rest ∙ ap (λ u. ended_lines_of lines ++ ended_lines_of (u ++ rest)) e in
    let unended : unended_of (lines ++ rest) ≡ unended_of rest = unended-append lines rest ∙ ap (λ u. unended_of (u ++ rest)) e in
    (sym (ended ∙ ap (λ v. ended_lines_of lines ++ v) (ended-none rest is) ∙ append-nil (ended_lines_of lines)), sym (unended ∙ unended-none rest is))

pub last_feed : (hay : List ℕ) (p : ℕ) → p < length hay → Passes (is_byte 10) hay p → Nowhere (Passes (is_byte 10) hay) (p + 1) (length hay)
    → (ended_lines_of (take (p + 1) hay) ≡ ended_lines_of hay) × (drop (p + 1) hay ≡ unended_of hay)
last_feed hay p lt passes f =
    let whole : p + 1 + (length hay - (p + 1)) ≡ length hay = omega arith in
    let front : take (p + 1) hay ≡ take p hay ++ 10 ∷ [] = take_more hay p 0 lt ∙ ap (λ v. take p hay ++ v ∷ []) (eqb-true (slice_index hay p) 10 passes) in
    let is : IsLine (drop (p + 1) hay) = rw (← take_rest hay (p + 1)) (line-between hay (p + 1) (length hay - (p + 1)) (λ k a b. f k a (omega arith))) in
    let both = ended-before (take (p + 1) hay) (drop (p + 1) hay) (rw front (unended-feed (take p hay))) is in
    let all : take (p + 1) hay ++ drop (p + 1) hay ≡ hay = take-append-drop (p + 1) hay in
    (both.0 ∙ ap ended_lines_of all, both.1 ∙ ap unended_of all)

pub no_feed : (hay : List ℕ) → Nowhere (Passes (is_byte 10) hay) 0 (length hay) → ([] ≡ ended_lines_of hay) × (hay ≡ unended_of hay)
no_feed hay f = let is = line_none hay f in (sym (ended-none hay is), sym (unended-none hay is))
