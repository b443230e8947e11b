-- A key table stays right if one more key is appended to its text.
use Rattle.std.proofs.Common.{◌≡◌, ℕ, ◌-◌, ◌≤◌, List, [], ◌∷◌, ◌++◌, map, take, drop, length, get_or, Less, Some, cond, refl, sym, ◌∙◌, ap, subst, inl, inr, arith, length-append, length-drop}
use Rattle.std.specs.Borrow.{Bor}
use Rattle.std.specs.List.{AllByRecursion}
use Rattle.std.specs.List.Sorted.{IsStrictlySortedBy}
use Rattle.std.specs.Map.{keys_of, lookup}
use Rattle.std.specs.BTreeMap.{is_at}
use Rattle.std.proofs.lemmas.Map.Text.{is_eq-slice_cmp}
use Rattle.std.specs.Cmp.Lexicographic.{slice_cmp}
use Rattle.std.specs.Ordering.{nat_cmp, is_eq}
use Rattle.std.specs.Str.{IsCharBoundary, IsUtf8}
use Rattle.std.proofs.Math.Seq.{drop-append_seam}
use Rattle.std.proofs.lemmas.Bool.{cases_lt}
use Rattle.std.proofs.lemmas.List.{drop-append-le, take-append-le, take_all, get_or_append_left}
use Rattle.std.proofs.lemmas.Str.{IsCharBoundary-at_seam, IsCharBoundary-end}
use Rattle.grok.specs.declared.key_table.KeyRange.{KeyRange}
use Rattle.grok.specs.KeyTable.{group_in}
use Rattle.grok.specs.steps.KeyRanges.{key_at, entries_at, IsKeyRange, IsExtended, entry_of}

module _ (text key : List ℕ) (utf8 : IsUtf8 key) where
  -- a character boundary of the text stays one
  boundary_stays : (i : ℕ) → IsCharBoundary text i → IsCharBoundary (text ++ key) i
  boundary_stays i cut = elim (cases_lt i (length text)) [
    | inl below ↦
        let long : i ≤ length (text ++ key) = omega (arith, length-append text key) in (
          long,
          λ lt high.
              let same : get_or (text ++ key) i 0 ≡ get_or text i 0 = get_or_append_left text key 0 i below in
              subst (λ n. 192 ≤ n) (sym same) (cut.1 below (subst (λ n. 128 ≤ n) same high)),
        )
    | inr past ↦
        let at : length text ≡ i = omega (arith, cut.0) in
        subst (IsCharBoundary (text ++ key)) at (IsCharBoundary-at_seam (text ++ key) text key refl utf8)
  ]

  range_stays : (range : KeyRange) → IsKeyRange text range → IsKeyRange (text ++ key) range
  range_stays range is = record { rises = is.rises; from = boundary_stays range.start is.from; to = boundary_stays range.end is.to }

  key_stays : (range : KeyRange) → IsKeyRange text range → key_at (text ++ key) range ≡ key_at text range
  key_stays range is =
      let rises = is.rises in
      let ends = is.to.0 in
      let short : range.end - range.start ≤ length (drop range.start text) = omega (arith, length-drop range.start text) in
      ap (take (range.end - range.start)) (drop-append-le range.start text key (omega arith)) ∙ take-append-le (range.end - range.start) (drop range.start text) key short

  abbrev last : ℕ → KeyRange
  last group = record { start = length text; end = length (text ++ key); group = group }

  last_is : (group : ℕ) → IsKeyRange (text ++ key) (last group)
  last_is group = record {
    rises = omega (arith, length-append text key);
    from = IsCharBoundary-at_seam (text ++ key) text key refl utf8;
    to = IsCharBoundary-end (text ++ key);
  }

  last_key : (group : ℕ) → key_at (text ++ key) (last group) ≡ key
  last_key group =
      let size : length (text ++ key) - length text ≡ length key = omega (arith, length-append text key) in
      ap (take (length (text ++ key) - length text)) (drop-append_seam text key) ∙ ap (λ n. take n key) size ∙ take_all (length key) key (omega arith)

  within_more : (ranges : List KeyRange) (group : ℕ) → AllByRecursion (IsKeyRange text) ranges → AllByRecursion (IsKeyRange (text ++ key)) (ranges ++ last group ∷ [])
  within_more [] group all = (last_is group, tt)
  within_more (range ∷ ranges) group all = (range_stays range all.0, within_more ranges group all.1)

  entries_more : (ranges : List KeyRange) (group : ℕ) → AllByRecursion (IsKeyRange text) ranges → entries_at (text ++ key) (ranges ++ last group ∷ []) ≡ entries_at text ranges ++ (key, group) ∷ []
  entries_more [] group all = ap (λ k. (k, group) ∷ []) (last_key group)
  entries_more (range ∷ ranges) group all =
      ap (λ k. (k, range.group) ∷ entries_at (text ++ key) (ranges ++ last group ∷ [])) (key_stays range all.0) ∙ ap (λ es. (key_at text range, range.group) ∷ es) (entries_more ranges group all.1)

  pub extended : (ranges : List KeyRange) (group : ℕ) → IsExtended text ranges key group (text ++ key) (ranges ++ last group ∷ [])
  extended ranges group = record { within = within_more ranges group; entries = entries_more ranges group }

-- the keys of a map rise, so their bytes do
all_shown : (first : Bor (List ℕ)) (es : List (Bor (List ℕ) × ℕ)) → AllByRecursion (λ (y : Bor (List ℕ)). slice_cmp nat_cmp first.now y.now ≡ Less) (keys_of es)
    → AllByRecursion (λ y. slice_cmp nat_cmp first.now y ≡ Less) (keys_of (map entry_of es))
all_shown first [] all = tt
all_shown first (e ∷ es) all = (all.0, all_shown first es all.1)

pub sorted_shown : (es : List (Bor (List ℕ) × ℕ)) → IsStrictlySortedBy (λ (x y : Bor (List ℕ)). slice_cmp nat_cmp x.now y.now) (keys_of es) → IsStrictlySortedBy (slice_cmp nat_cmp) (keys_of (map entry_of es))
unfolding IsStrictlySortedBy
sorted_shown [] sorted = tt
sorted_shown (e ∷ es) sorted = (all_shown e.0 es sorted.0, sorted_shown es sorted.1)

-- looking up a key by its bytes, among the entries as contracts see them
pub same_group : (key : List ℕ) (es : List (Bor (List ℕ) × ℕ)) → group_in (map entry_of es) key ≡ lookup (is_at (λ (k : Bor (List ℕ)). slice_cmp nat_cmp key k.now)) es
same_group key [] = refl
same_group key (e ∷ es) = ap (λ b. cond b (Some e.1) (group_in (map entry_of es) key)) (sym (is_eq-slice_cmp key e.0.now)) ∙ ap (λ o. cond (is_eq (slice_cmp nat_cmp key e.0.now)) (Some e.1) o) (same_group key es)
