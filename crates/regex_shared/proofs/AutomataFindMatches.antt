-- The automata that are built from a text find the match that `regex` finds for that text.
use Rattle.std.proofs.Common.{Vec, vec_len, ◌≡◌, ℕ, zero, suc, ◌+◌, ◌-◌, ◌*◌, ◌/◌, ◌<◌, ◌≤◌, ◌==◌, List, ◌∷◌, map, get_or, slice_index, Option, None, Some, IfSome, IsSomeAnd, option_map, true, refl, sym, ap, ap₂, subst, ◌∙◌, ⊎_elim, arith, ne_eqb, IsCharBoundary, slice_range}
use Rattle.std.specs.List.{range_with_len}
use Rattle.std.specs.Option.{option_or}
use Rattle.std.specs.Str.{chars}
use Rattle.std.specs.Borrow.{Bor}
use Rattle.std.proofs.lemmas.List.{length-map}
use Rattle.std.specs.Coded.{Coded-set, coded_option, coded_list, coded_ℕ}
use Rattle.std.proofs.lemmas.Bool.{cond-false}
use Rattle.std.proofs.lemmas.List.FromFn.{get_or-map-range_with_len}
use mathlib.Core.Logic.{∥∥₁_elim}
use Rattle.regex_hir.specs.Re.{Re}
use Rattle.regex_hir.specs.Find.{Match, find, find_str, last_write, slot_of}
use Rattle.regex_hir.specs.Meaning.{meaning}
use Rattle.regex_hir.specs.Text.{is_boundary}
use Rattle.regex_hir.specs.declared.hir.Hir.{Hir}
use Rattle.regex_hir.proofs.OptionLemmas.{option_cases, option_or-None}
use Rattle.regex_syntax.specs.Grammar.{Names, read}
use Rattle.regex_syntax.specs.Verdict.{Reads, default_config}
use Rattle.regex_syntax.proofs.CapturesLemmas as seen
use Rattle.regex_vm.specs.Found.{span, cell, group_cells}
use Rattle.regex.specs.Patterns.{SameCaptures}
use Rattle.regex.specs.Strings.{regex_pattern, regex_source}
use Rattle.regex.specs.Writes.{both}
use Rattle.regex.specs.declared.string.regex.Regex.{Regex}
use Rattle.regex.proofs.SearchLemmas.{leftmost_none, leftmost_here}
use Rattle.regex.proofs.ForCallers.{span_alike, found_alike}
use Rattle.regex.proofs.Utf8Lemmas.{test_of_IsCharBoundary}
use Rattle.regex_shared.specs.Texts.{text_of, capture_texts, texts_if, AreSlicesOf, IsMatchIn, IsReadByDefault, texts_at, span_of_group, captures_in}
use Rattle.regex_shared.specs.steps.Searches.{IsTreeOf, span_of_pair, span_of_cells}

-- ---- the same text

both_hold : {A B : Type 0} (o : Option A) (P Q : A → Type 0) → ((x : A) → P x → Q x → B) → IsSomeAnd o P → IsSomeAnd o Q → B
both_hold None P Q f p q = absurd p
both_hold (Some x) P Q f p q = f x p q

-- two readings of one text capture alike
read_alike : (text : List ℕ) (hir : Hir) (names : Names) (r : Regex) → Reads default_config text hir names →
    text ≡ regex_source r → IsReadByDefault r → SameCaptures (meaning hir) (regex_pattern r)
unfolding Reads
read_alike text hir names r p source is =
    both_hold (read default_config (chars text)) _ _ (λ x h k. seen.◌also◌ h.1 (seen.alike_sym k.1)) p (rw (← source, is.0) at is.1)

-- ---- from the tree to the text

module _ (a : Re) (hay : List ℕ) (found : Option (ℕ × ℕ))
    (e : found ≡ option_map span (find a hay 0)) (cut : IfSome found (λ s. IsCharBoundary hay s.0)) where
  cut_at : (m : Match) → find a hay 0 ≡ Some m → is_boundary hay m.start ≡ true
  cut_at m at =
      let is : found ≡ Some (span m) = e ∙ ap (option_map span) at in
      test_of_IsCharBoundary hay m.start (subst (λ o. IfSome o (λ s. IsCharBoundary hay s.0)) is cut)

  -- a match that starts at the start of a character is the first that does so
  find_is_text : find a hay 0 ≡ find_str a hay 0
  find_is_text = ⊎_elim
      (λ none. none ∙ sym (leftmost_none a hay true 0 none))
      (λ (some : (m : Match) × (find a hay 0 ≡ Some m)). some.1 ∙ sym (leftmost_here a hay true 0 some.0 some.1 (λ _. cut_at some.0 some.1)))
      (option_cases (find a hay 0))

  pub spans_found : found ≡ option_map span (find_str a hay 0)
  spans_found = e ∙ ap (option_map span) find_is_text

  pub cells_found : (cells : List ℕ) (n : ℕ) → IfSome (find a hay 0) (λ m. cells ≡ group_cells m n) →
      IfSome (find_str a hay 0) (λ m. cells ≡ group_cells m n)
  cells_found cells n is = subst (λ o. IfSome o (λ m. cells ≡ group_cells m n)) find_is_text is

-- ---- from the cells to the texts

later_slot : (m : Match) (slot : ℕ) → 2 ≤ slot → slot_of m slot ≡ last_write m.trace.writes slot
unfolding slot_of
later_slot m slot high =
    ap₂ option_or
    (ap (option_or (last_write m.trace.writes slot)) (cond-false _ (Some m.trace.end) None (ne_eqb 1 slot (omega arith)))
    ∙ option_or-None _)
    (cond-false _ (Some m.start) None (ne_eqb 0 slot (omega arith)))
    ∙ option_or-None _

cell_at : (m : Match) (width k slot : ℕ) → k < width → k + 2 ≡ slot → slice_index (group_cells m width) k ≡ cell (slot_of m slot)
unfolding group_cells
cell_at m width k slot inside is =
    get_or-map-range_with_len (λ j. cell (last_write m.trace.writes (j + 2))) 0 width k k 0 inside (omega arith)
    ∙ ap (λ (s : ℕ). cell (last_write m.trace.writes s)) is ∙ ap cell (sym (later_slot m slot (omega arith)))

pair_is : (first last : Option ℕ) → span_of_pair (cell first) (cell last) ≡ both first last
pair_is None last = refl
pair_is (Some x) None = grind arith
pair_is (Some x) (Some y) =
    let low : x + 1 - 1 ≡ x = omega arith in
    let high : y + 1 - 1 ≡ y = omega arith in
    cond-false (x + 1 == 0) None _ (ne_eqb (x + 1) 0 (omega arith))
    ∙ cond-false (y + 1 == 0) None _ (ne_eqb (y + 1) 0 (omega arith)) ∙ ap₂ (λ (p q : ℕ). Some (p, q)) low high

-- the cells of the match n have the spans of the groups of m, if both have the same slots
span_is : (n m : Match) (width group : ℕ) → slot_of n ≡ slot_of m → 2 * group ≤ width →
    span_of_cells (span m) (group_cells n width) group ≡ span_of_group m group
span_is n m width zero same fits = refl
span_is n m width (suc k) same fits =
    cond-false (suc k == 0) (Some (span m)) _ (ne_eqb (suc k) 0 (omega arith))
    ∙ ap₂ span_of_pair (cell_at n width (2 * suc k - 2) (2 * suc k) (omega arith) (omega arith))
    (cell_at n width (2 * suc k - 1) (2 * suc k + 1) (omega arith) (omega arith))
    ∙ pair_is (slot_of n (2 * suc k)) (slot_of n (2 * suc k + 1))
    ∙ ap (λ (f : ℕ → Option ℕ). both (f (2 * suc k)) (f (2 * suc k + 1))) same

map_below : {A : Type 0} (f g : ℕ → A) (count start : ℕ) → ((k : ℕ) → k < start + count → f k ≡ g k) →
    map f (range_with_len start count) ≡ map g (range_with_len start count)
map_below f g zero start h = refl
map_below f g (suc count) start h =
    ap₂ ◌∷◌ (h start (omega arith)) (map_below f g count (start + 1) (λ k lt. h k (omega arith)))

texts_are : (hay : List ℕ) (n m : Match) (width : ℕ) → slot_of n ≡ slot_of m →
    texts_at hay (span_of_cells (span m) (group_cells n width)) (width / 2 + 1) ≡ texts_at hay (span_of_group m) (width / 2 + 1)
texts_are hay n m width same =
    map_below _ _ (width / 2 + 1) 0 (λ k lt.
    ap (option_map (λ range. slice_range hay range.0 range.1)) (span_is n m width k same (omega arith)))

-- ---- from the tree to the regex

abbrev answer_of_cells : List ℕ → List ℕ → ℕ → Option (ℕ × ℕ) → Option (List (Option (List ℕ)))
answer_of_cells hay cells count found = option_map (λ whole. texts_at hay (span_of_cells whole cells) count) found

module _ (a b : Re) (hay cells : List ℕ) (width : ℕ) (bytes : (k : ℕ) → get_or hay k 0 < 256) (found : Option (ℕ × ℕ))
    (spans : found ≡ option_map span (find_str a hay 0)) (are : IfSome (find_str a hay 0) (λ m. cells ≡ group_cells m width)) where
  answers : SameCaptures a b → answer_of_cells hay cells (width / 2 + 1) found ≡ captures_in b (width / 2 + 1) hay
  answers same =
      let seen_span = spans ∙ span_alike same hay bytes true 0 in
      ⊎_elim
      (λ none. ap (answer_of_cells hay cells (width / 2 + 1)) (seen_span ∙ ap (option_map span) none)
      ∙ sym (ap (option_map (λ m. texts_at hay (span_of_group m) (width / 2 + 1))) none))
      (λ (some : (m : Match) × (find_str b hay 0 ≡ Some m)).
      let m = some.0 in
      let back = found_alike (seen.alike_sym same) hay bytes true 0 m some.1 in
      let n = back.0 in
      let is : cells ≡ group_cells n width = subst (λ o. IfSome o (λ x. cells ≡ group_cells x width)) back.1 are in
      ap₂ (λ (cs : List ℕ) (o : Option (ℕ × ℕ)). answer_of_cells hay cs (width / 2 + 1) o) is (seen_span ∙ ap (option_map span) some.1)
      ∙ ap Some (texts_are hay n m width back.2)
      ∙ sym (ap (option_map (λ x. texts_at hay (span_of_group x) (width / 2 + 1))) some.1))
      (option_cases (find_str b hay 0))

-- what the automata find in the line is what the regex of the same text finds
pub answered : (source : List ℕ) (hir : Hir) (r : Regex) (hay cells : List ℕ) (width count : ℕ) → ∥ IsTreeOf source hir ∥₁ →
    source ≡ regex_source r → ∥ IsReadByDefault r ∥₁ → ((k : ℕ) → get_or hay k 0 < 256) → (found chosen : Option (ℕ × ℕ)) →
    found ≡ option_map span (find_str (meaning hir) hay 0) → IfSome (find_str (meaning hir) hay 0) (λ m. cells ≡ group_cells m width) →
    width / 2 + 1 ≡ count → found ≡ chosen → answer_of_cells hay cells count chosen ≡ captures_in (regex_pattern r) count hay
answered source hir r hay cells width count tree same read bytes found chosen spans are counted is =
    let set = Coded-set (coded_option (coded_list (coded_option (coded_list coded_ℕ)))) (answer_of_cells hay cells (width / 2 + 1) found)
    (captures_in (regex_pattern r) (width / 2 + 1) hay) in
    subst (λ (n : ℕ). answer_of_cells hay cells n chosen ≡ captures_in (regex_pattern r) n hay) counted
    (subst (λ (o : Option (ℕ × ℕ)). answer_of_cells hay cells (width / 2 + 1) o ≡ captures_in (regex_pattern r) (width / 2 + 1) hay) is
    (∥∥₁_elim tree set (λ t. ∥∥₁_elim read set (λ by_default.
    answers (meaning hir) (regex_pattern r) hay cells width bytes found spans are (read_alike source hir t.0 r t.1 same by_default)))))

-- ---- the texts of a match in a list

pub listed : {A : Type 0} {line : List ℕ} {finds : List ℕ → Option (List (Option (List ℕ)))} {count : ℕ} (captures : Vec (Option (Bor (List ℕ))) A)
    → Some (capture_texts captures.items) ≡ finds line → vec_len captures ≡ count → AreSlicesOf line (capture_texts captures.items)
    → IsMatchIn line finds count (texts_if true captures)
listed captures answer all_groups slices =
    record { answer = answer; all_groups = length-map captures.items (option_map text_of) ∙ (sym captures.ok.0 ∙ all_groups); slices = slices }
