-- With fewer levels left, a text has the same size or fault, or is nested too deeply.
use Rattle.std.proofs.Common.{◌≡◌, ℕ, zero, suc, ◌+◌, ◌<◌, ◌≤◌, max, Bool, true, false, cond, List, [], ◌∷◌, Result, Some, None, Ok, Err, refl, sym, ◌∙◌, ap, subst, ◌⊎◌, inl, inr, arith}
use Rattle.std.proofs.lemmas.Bool.{ltb-true, ltb-false, lt-ltb, le-ltb, cases_lt}
use Rattle.std.specs.Prelude.{nat_lt}
use Rattle.grok.specs.Tree.{Fault, MalformedPiece, Missing, TooDeep, Label, meaning_text, Item, TextItem, FaultItem, PlaceholderItem}
use Rattle.grok.specs.steps.Sizes.{Size, size_of_bytes, both, wrapped, size_of, sizes, size_or_fault}
use Rattle.grok.specs.steps.MeasuredOnce.{Progress, InProgress, HasSize, HasFault, NeedsMoreThan, known_result, reach_within, inlined, Reading}
use Rattle.grok.specs.steps.MeasureCache.{HoldsOfText}
use Rattle.grok.proofs.Sizes.TextsWithoutPlaceholders.{IsFlat, flat_measured}
use Rattle.grok.proofs.Sizes.ReadingInduction.{last_progress}

-- the same result, or nested too deeply
abbrev Cut : Result Size Fault → Result Size Fault → Type 0
Cut r s = (r ≡ s) ⊎ (r ≡ Err TooDeep)

cut_both : (r s r' s' : Result Size Fault) → Cut r s → Cut r' s' → Cut (both r r') (both s s')
cut_both r s r' s' (inr deep) q = inr (rw deep refl)
cut_both r (Err f) r' s' (inl same) q = inl (rw same refl)
cut_both r (Ok a) r' s' (inl same) (inl same') = inl (rw (same, same') refl)
cut_both r (Ok a) r' s' (inl same) (inr deep) = inr (rw (same, deep) refl)

cut_wrapped : (alias_only : Bool) (label : Label) (r s : Result Size Fault) → Cut r s → Cut (wrapped alias_only label r) (wrapped alias_only label s)
cut_wrapped alias_only label r s (inl same) = inl (ap (wrapped alias_only label) same)
cut_wrapped alias_only label r s (inr deep) = inr (ap (wrapped alias_only label) deep)

cut_sizes : (alias_only : Bool) (f g : List ℕ → Result Size Fault) → ((t : List ℕ) → Cut (f t) (g t)) → (items : List Item) → Cut (sizes alias_only f items) (sizes alias_only g items)
cut_sizes alias_only f g h [] = inl refl
cut_sizes alias_only f g h (TextItem text ∷ items) = cut_both (Ok (size_of_bytes text)) (Ok (size_of_bytes text)) (sizes alias_only f items) (sizes alias_only g items) (inl refl) (cut_sizes alias_only f g h items)
cut_sizes alias_only f g h (FaultItem fault ∷ items) = inl refl
cut_sizes alias_only f g h (PlaceholderItem label meaning ∷ items) =
    let t = meaning_text meaning in
    cut_both (wrapped alias_only label (f t)) (wrapped alias_only label (g t)) (sizes alias_only f items) (sizes alias_only g items) (cut_wrapped alias_only label (f t) (g t) (h t)) (cut_sizes alias_only f g h items)

-- This result from `least` levels on, and too deep with fewer.
pub record Settles (f : ℕ → Result Size Fault) (least : ℕ) (r : Result Size Fault) : Type 0 where
  pub fits : (levels : ℕ) → least ≤ levels → f levels ≡ r
  pub deep : (levels : ℕ) → levels < least → f levels ≡ Err TooDeep

pub settles_always : (f : ℕ → Result Size Fault) (r : Result Size Fault) → ((levels : ℕ) → f levels ≡ r) → Settles f 0 r
settles_always f r same = record { fits = λ n le. same n; deep = λ n low. absurd (omega arith) }

pub settles_wrapped : (alias_only : Bool) (label : Label) (f : ℕ → Result Size Fault) (least : ℕ) (r : Result Size Fault) → Settles f least r → Settles (λ n. wrapped alias_only label (f n)) least (wrapped alias_only label r)
settles_wrapped alias_only label f least r h = record { fits = λ n le. ap (wrapped alias_only label) (h.fits n le); deep = λ n low. ap (wrapped alias_only label) (h.deep n low) }

module _ (f g : ℕ → Result Size Fault) where
  -- a fault at the start is the fault of the whole
  pub settles_first : (least : ℕ) (fault : Fault) → Settles f least (Err fault) → Settles (λ n. both (f n) (g n)) least (Err fault)
  settles_first least fault h = record { fits = λ n le. ap (λ r. both r (g n)) (h.fits n le); deep = λ n low. ap (λ r. both r (g n)) (h.deep n low) }

  -- after a text with a size
  pub deep_after_size : (least : ℕ) (a : Size) → Settles f least (Ok a) → (n : ℕ) → g n ≡ Err TooDeep → both (f n) (g n) ≡ Err TooDeep
  deep_after_size least a h n deep = elim (cases_lt n least) [
    | inl below ↦ ap (λ r. both r (g n)) (h.deep n below)
    | inr room ↦ ap (λ r. both r (g n)) (h.fits n room) ∙ ap (both (Ok a)) deep
  ]

  pub settles_after_size : (here least : ℕ) (a : Size) (r : Result Size Fault) → Settles f here (Ok a) → Settles g least r → Settles (λ n. both (f n) (g n)) (max here least) (both (Ok a) r)
  settles_after_size here least a r h l = record {
    fits = λ n le. ap (λ r. both r (g n)) (h.fits n (omega arith)) ∙ ap (both (Ok a)) (l.fits n (omega arith));
    deep = λ n low. elim (cases_lt n least) [
      | inl below ↦ deep_after_size here a h n (l.deep n below)
      | inr room ↦ ap (λ r. both r (g n)) (h.deep n (omega arith))
    ];
  }

-- two cases: the levels are enough for the height, or they aren't
by_room : (f : ℕ → Result Size Fault) (height : ℕ) (r : Result Size Fault) → Settles f (suc height) r → (n : ℕ) → f n ≡ cond (nat_lt height n) r (Err TooDeep)
by_room f height r h n = go (nat_lt height n) refl
  where
    go : (b : Bool) → nat_lt height n ≡ b → f n ≡ cond b r (Err TooDeep)
    go true is = h.fits n (let room = ltb-true height n is in omega arith)
    go false is = h.deep n (let low = ltb-false height n is in omega arith)

from_room : (f : ℕ → Result Size Fault) (height : ℕ) (r : Result Size Fault) → ((n : ℕ) → f n ≡ cond (nat_lt height n) r (Err TooDeep)) → Settles f (suc height) r
from_room f height r h = record {
  fits = λ n le. h n ∙ ap (λ b. cond b r (Err TooDeep)) (lt-ltb height n (omega arith));
  deep = λ n low. h n ∙ ap (λ b. cond b r (Err TooDeep)) (le-ltb height n (omega arith));
}

-- the height of a text up to its end or its fault
abbrev pub high : Result Size Fault → ℕ → ℕ
high (Ok size) reach = size.height
high (Err fault) reach = reach

module _ (alias_only : Bool) (resolve : List ℕ → List Item) where
  -- a text, an item and items, at each number of levels
  abbrev pub of_text : List ℕ → ℕ → Result Size Fault
  of_text text levels = size_or_fault alias_only resolve levels text

  abbrev pub of_item : Item → ℕ → Result Size Fault
  of_item item levels = size_of alias_only (size_or_fault alias_only resolve levels) item

  abbrev pub of_items : List Item → ℕ → Result Size Fault
  of_items items levels = sizes alias_only (size_or_fault alias_only resolve levels) items

  cut_measured : (low high : ℕ) (t : List ℕ) → low ≤ high → Cut (of_text t low) (of_text t high)
  cut_measured zero high t le = inr refl
  cut_measured (suc low) zero t le = absurd (omega arith)
  cut_measured (suc low) (suc high) t le = cut_sizes alias_only (size_or_fault alias_only resolve low) (size_or_fault alias_only resolve high) (λ s. cut_measured low high s (omega arith)) (resolve t)

  deep_below : (low high : ℕ) (t : List ℕ) → low ≤ high → of_text t high ≡ Err TooDeep → of_text t low ≡ Err TooDeep
  deep_below low high t le deep = elim (cut_measured low high t le) [ inl same ↦ same ∙ deep | inr deep' ↦ deep' ]

  -- If a text is nested too deeply whenever a text inside it is, and it is inside itself, then it is nested too
  -- deeply however many levels there are.
  pub circle : (down : ℕ) (t : List ℕ) → ((levels : ℕ) → of_text t levels ≡ Err TooDeep → of_text t (levels + suc down) ≡ Err TooDeep) → (levels : ℕ) → of_text t levels ≡ Err TooDeep
  circle down t round zero = refl
  circle down t round (suc levels) = deep_below (suc levels) (levels + suc down) t (omega arith) (round levels (circle down t round levels))

  pub settles_text : (text : List ℕ) (least : ℕ) (r : Result Size Fault) → Settles (of_items (resolve text)) least r → Settles (of_text text) (suc least) r
  settles_text text least r h = record { fits = fits; deep = deep }
    where
      fits : (n : ℕ) → suc least ≤ n → of_text text n ≡ r
      fits zero le = absurd (omega arith)
      fits (suc n) le = h.fits n (omega arith)

      deep : (n : ℕ) → n < suc least → of_text text n ≡ Err TooDeep
      deep zero low = refl
      deep (suc n) low = h.deep n (omega arith)

  -- an inline definition
  pub settles_inline : (levels : ℕ) (label : Label) (text : List ℕ) → IsFlat resolve text → (wrapped alias_only label (inlined levels text) ≡ Err TooDeep → ⊥)
      → Settles (λ n. wrapped alias_only label (of_text text n)) (high (wrapped alias_only label (inlined levels text)) 1) (wrapped alias_only label (inlined levels text))
  settles_inline zero label text flat real = absurd (real refl)
  settles_inline (suc levels) label text flat real =
      let size = Ok (size_of_bytes text) in
      settles_wrapped alias_only label (of_text text) 1 size (settles_text text 0 size (settles_always (of_items (resolve text)) size (λ n. flat_measured alias_only resolve text flat (suc n))))

  -- ---- what is remembered

  deep_says : (text : List ℕ) (levels : ℕ) → of_text text levels ≡ Err TooDeep → HoldsOfText alias_only resolve (NeedsMoreThan levels) text
  deep_says text levels e n r is = go (nat_lt levels n) refl is
    where
      go : (b : Bool) → nat_lt levels n ≡ b → cond b None (Some (Err TooDeep)) ≡ Some r → of_text text n ≡ r
      go true room is = cc
      go false low is = let same : Err TooDeep ≡ r = cc in deep_below n levels text (ltb-false _ _ low) e ∙ same

  room_says : (text : List ℕ) (height : ℕ) (s : Result Size Fault) → Settles (of_text text) (suc height) s → (n : ℕ) (r : Result Size Fault) → Some (cond (nat_lt height n) s (Err TooDeep)) ≡ Some r → of_text text n ≡ r
  room_says text height s h n r is = let same : cond (nat_lt height n) s (Err TooDeep) ≡ r = cc in by_room (of_text text) height s h n ∙ same

  -- what is remembered of a definition that was measured is right
  pub last_says : (levels : ℕ) (text : List ℕ) (answer : Reading) → answer.0 ≡ of_text text levels → ((answer.0 ≡ Err TooDeep → ⊥) → Settles (of_text text) (suc (high answer.0 answer.1.reach)) answer.0)
      → HoldsOfText alias_only resolve (last_progress levels answer) text
  last_says levels text (Ok size, st) same settles = room_says text size.height (Ok size) (settles (λ e. cc))
  last_says levels text (Err (MalformedPiece f), st) same settles = room_says text st.reach (Err (MalformedPiece f)) (settles (λ e. cc))
  last_says levels text (Err (Missing name), st) same settles = room_says text st.reach (Err (Missing name)) (settles (λ e. cc))
  last_says levels text (Err TooDeep, st) same settles = deep_says text levels (sym same)

  -- a remembered size, or a fault other than `TooDeep`, is that of the text if more levels than its height are
  -- left
  pub known_settles : (text : List ℕ) (progress : Progress Size) (levels : ℕ) (r : Result Size Fault) → known_result progress levels ≡ Some r → (progress ≡ InProgress) ⊎ HoldsOfText alias_only resolve progress text
      → (r ≡ Err TooDeep → ⊥) → Settles (of_text text) (suc (high r (reach_within progress levels))) r
  known_settles text InProgress levels r e honest real = let deep : Err TooDeep ≡ r = cc in absurd (real (sym deep))
  known_settles text (HasSize size) levels r e (inl begun) real = cc
  known_settles text (HasSize size) levels r e (inr says) real = go (nat_lt size.height levels) e
    where
      go : (b : Bool) → Some (cond {A = Result Size Fault} b (Ok size) (Err TooDeep)) ≡ Some r → Settles (of_text text) (suc (high r 0)) r
      go true e = let same : Ok size ≡ r = cc in subst (λ s. Settles (of_text text) (suc (high s 0)) s) same (from_room (of_text text) size.height (Ok size) (λ n. says n _ refl))
      go false e = let deep : Err TooDeep ≡ r = cc in absurd (real (sym deep))
  known_settles text (HasFault f height) levels r e (inl begun) real = cc
  known_settles text (HasFault f height) levels r e (inr says) real = go (nat_lt height levels) e
    where
      go : (b : Bool) → Some (cond {A = Result Size Fault} b (Err f) (Err TooDeep)) ≡ Some r → Settles (of_text text) (suc (high r (cond b height 0))) r
      go true e = let same : Err f ≡ r = cc in subst (λ s. Settles (of_text text) (suc (high s height)) s) same (from_room (of_text text) height (Err f) (λ n. says n _ refl))
      go false e = let deep : Err TooDeep ≡ r = cc in absurd (real (sym deep))
  known_settles text (NeedsMoreThan most) levels r e honest real = go (nat_lt most levels) e
    where
      go : (b : Bool) → cond b None (Some (Err TooDeep)) ≡ Some r → Settles (of_text text) (suc (high r 0)) r
      go true e = cc
      go false e = let deep : Err TooDeep ≡ r = cc in absurd (real (sym deep))
