-- Binary search in a key table finds the entry of a key exactly if there is one.
use Rattle.std.proofs.Common.{◌≡◌, ℕ, zero, suc, ◌<◌, ◌≤◌, Bool, List, [], ◌∷◌, length, get_or, Result, Some, None, Ok, Err, MatchResult, Ordering, Less, Equal, Greater, refl, sym, ◌∙◌, ap, subst, inl, inr, arith}
use Rattle.std.specs.List.{AllByRecursion, slice_get}
use Rattle.std.specs.List.Sorted.{IsSearchInRange, IsBinarySearchResult, IsNonDecreasingBy}
use Rattle.std.specs.Option.{option_map}
use Rattle.std.specs.Map.{lookup, keys_of}
use Rattle.std.specs.Cmp.Lexicographic.{slice_cmp}
use Rattle.std.specs.Ordering.{nat_cmp, is_eq, ordering_index, ordering_reverse}
use Rattle.std.specs.BTreeMap.{is_at}
use Rattle.std.proofs.lemmas.Bool.{cases_eq, le-leb}
use Rattle.std.proofs.lemmas.Cmp.{nat_list_cmp_total, eq_by_cmp_equiv, alike_right}
use Rattle.std.proofs.lemmas.List.{length-map}
use Rattle.std.proofs.lemmas.Option.{slice_get-map, slice_get-get_or, slice_get_within}
use Rattle.std.proofs.lemmas.Map.Entries.{lookup_from_place, lookup_at_gap}
use Rattle.std.proofs.lemmas.Map.Keys.{Less-from_sorted, IsDistinct-from_sorted}
use Rattle.std.proofs.lemmas.Map.Text.{is_eq-slice_cmp}
use Rattle.grok.specs.declared.key_table.KeyRange.{KeyRange}
use Rattle.grok.specs.KeyTable.{Entries, group_in}
use Rattle.grok.specs.steps.KeyRanges.{key_at, key_or_none, entries_at, IsKeyRange, IsTable}
use Rattle.grok.proofs.Texts.EqualBytesAreSameText.{same_text}
use Rattle.grok.proofs.KeyTables.NamesMeanKeys.{get_mapped}

abbrev by_bytes : List ℕ → List ℕ → Ordering
by_bytes = slice_cmp nat_cmp

index_at_most : (o : Ordering) → ordering_index o ≤ 2
index_at_most Less = omega arith
index_at_most Equal = omega arith
index_at_most Greater = omega arith

-- if one key is below another, it doesn't compare as greater
rises_with : (a b key : List ℕ) → by_bytes a b ≡ Less → ordering_index (by_bytes a key) ≤ ordering_index (by_bytes b key)
rises_with a b key below = go (by_bytes b key) refl
  where
    go : (o : Ordering) → by_bytes b key ≡ o → ordering_index (by_bytes a key) ≤ ordering_index o
    go Less e = let low : ordering_index (by_bytes a key) ≡ 0 = ap ordering_index (nat_list_cmp_total.trans a b key below e) in omega arith
    go Equal e = let low : ordering_index (by_bytes a key) ≡ 0 = ap ordering_index (sym (alike_right nat_list_cmp_total b key a e) ∙ below) in omega arith
    go Greater e = index_at_most (by_bytes a key)

same_key : (a b : List ℕ) → by_bytes a b ≡ Equal → a ≡ b
same_key a b e = same_text a b (sym (is_eq-slice_cmp a b) ∙ ap is_eq e)

same_test : (key : List ℕ) (entries : Entries) → lookup (is_at (by_bytes key)) entries ≡ group_in entries key
same_test key entries = ap (λ (test : List ℕ → Bool). lookup test entries) (λ i k. is_eq-slice_cmp key k i)

is_within : (text : List ℕ) (ranges : List KeyRange) → AllByRecursion (IsKeyRange text) ranges → (i : ℕ) (d : KeyRange) → i < length ranges → IsKeyRange text (get_or ranges i d)
is_within text [] all i d h = absurd (omega arith)
is_within text (range ∷ ranges) all zero d h = all.0
is_within text (range ∷ ranges) all (suc i) d h = is_within text ranges all.1 i d (omega arith)

pub range_reads : (text : List ℕ) (range : KeyRange) → IsKeyRange text range → key_or_none text range ≡ key_at text range
range_reads text range is = rw (le-leb range.start range.end is.rises, le-leb range.end (length text) is.to.0) refl

module _ (text : List ℕ) (ranges : List KeyRange) (table : IsTable text ranges) (key : List ℕ) where
  abbrev entries : Entries
  entries = entries_at text ranges

  abbrev ord : KeyRange → Ordering
  ord range = by_bytes (key_or_none text range) key

  reads : (i : ℕ) (d : KeyRange) → i < length ranges → key_or_none text (get_or ranges i d) ≡ key_at text (get_or ranges i d)
  reads i d h = range_reads text (get_or ranges i d) (is_within text ranges table.within i d h)

  key_is : (i : ℕ) (d : KeyRange) → i < length ranges → get_or (keys_of entries) i [] ≡ key_at text (get_or ranges i d)
  key_is i d h =
      let long : length entries ≡ length ranges = length-map ranges (λ range. (key_at text range, range.group)) in
      get_mapped (λ (e : List ℕ × ℕ). e.0) entries i (key_at text d, d.group) [] (omega arith)
      ∙ ap (λ (e : List ℕ × ℕ). e.0) (get_mapped (λ range. (key_at text range, range.group)) ranges i d (key_at text d, d.group) h)

  entry_is : (i : ℕ) (d : KeyRange) → i < length ranges → slice_get entries i ≡ Some (key_at text (get_or ranges i d), (get_or ranges i d).group)
  entry_is i d h = slice_get-map (λ range. (key_at text range, range.group)) ranges i ∙ ap (λ o. option_map (λ range. (key_at text range, range.group)) o) (slice_get-get_or ranges i d h)

  climbs : IsNonDecreasingBy (λ range. ordering_index (ord range)) ranges
  climbs i j d le h = elim (cases_eq i j) [
    | inl same ↦ subst (λ n. ordering_index (ord (get_or ranges i d)) ≤ ordering_index (ord (get_or ranges n d))) same (omega arith)
    | inr other ↦
        let long : length (keys_of entries) ≡ length ranges = length-map entries (λ (e : List ℕ × ℕ). e.0) ∙ length-map ranges (λ range. (key_at text range, range.group)) in
        let less : by_bytes (get_or (keys_of entries) i []) (get_or (keys_of entries) j []) ≡ Less = Less-from_sorted by_bytes (keys_of entries) i j [] table.sorted (omega arith) (omega arith) in
        let before : i < length ranges = omega arith in
        let keys : by_bytes (key_or_none text (get_or ranges i d)) (key_or_none text (get_or ranges j d)) ≡ Less =
        ap (λ a. by_bytes a (key_or_none text (get_or ranges j d))) (reads i d before ∙ sym (key_is i d before)) ∙ ap (by_bytes (get_or (keys_of entries) i [])) (reads j d h ∙ sym (key_is j d h)) ∙ less in
        rises_with (key_or_none text (get_or ranges i d)) (key_or_none text (get_or ranges j d)) key keys
  ]

  pub found : (i : ℕ) (range : KeyRange) → i < length ranges → range ≡ get_or ranges i range → ord range ≡ Equal → group_in entries key ≡ Some range.group
  found i range h is equal =
      let here : key_at text range ≡ key = sym (range_reads text range (subst (IsKeyRange text) (sym is) (is_within text ranges table.within i range h))) ∙ same_key (key_or_none text range) key equal in
      let entry : slice_get entries i ≡ Some (key, range.group) = entry_is i range h ∙ ap (λ (p : KeyRange). Some (key_at text p, p.group)) (sym is) ∙ ap (λ k. Some (k, range.group)) here in
      sym (same_test key entries) ∙ lookup_from_place (eq_by_cmp_equiv nat_list_cmp_total) entries i key range.group (IsDistinct-from_sorted by_bytes (keys_of entries) table.sorted) entry

  pub missing : (i : ℕ) → i ≤ length ranges → ((j : ℕ) (d : KeyRange) → j < i → ord (get_or ranges j d) ≡ Less) → ((j : ℕ) (d : KeyRange) → i ≤ j → j < length ranges → ord (get_or ranges j d) ≡ Greater) → group_in entries key ≡ None
  missing i bound below above =
      let long : length entries ≡ length ranges = length-map ranges (λ range. (key_at text range, range.group)) in
      let dummy : KeyRange = record { start = 0; end = 0; group = 0 } in
      let flip : (j : ℕ) (e : List ℕ × ℕ) (o : Ordering) → j < length ranges → slice_get entries j ≡ Some e → ord (get_or ranges j dummy) ≡ o → by_bytes key e.0 ≡ ordering_reverse o = λ j e o h got was.
      let both : Some e ≡ Some (key_at text (get_or ranges j dummy), (get_or ranges j dummy).group) = sym got ∙ entry_is j dummy h in
      let same : e ≡ (key_at text (get_or ranges j dummy), (get_or ranges j dummy).group) = cc in
      nat_list_cmp_total.antisymm key e.0 ∙ ap (λ k. ordering_reverse (by_bytes k key)) (ap (λ (p : List ℕ × ℕ). p.0) same ∙ sym (reads j dummy h)) ∙ ap ordering_reverse was in
      sym (same_test key entries) ∙ lookup_at_gap nat_list_cmp_total key entries i table.sorted
      (λ j e lt got. flip j e Less (omega arith) got (below j dummy lt))
      (λ e got. let h : i < length ranges = omega (arith, slice_get_within entries i e got) in flip i e Greater h got (above i dummy (omega arith) h))

  pub halved : (r : Result ℕ ℕ) → IsSearchInRange r (length ranges) → IsBinarySearchResult ord ranges r
      → MatchResult r (λ i. (range : KeyRange) → range ≡ get_or ranges i range → group_in entries key ≡ Some range.group) (λ i. group_in entries key ≡ None)
  halved (Ok i) bound equal = λ range is. found i range bound is (ap ord is ∙ equal range)
  halved (Err i) bound parted =
      let sides = parted climbs in
      missing i bound (λ j d lt. sides.0 j d (omega arith) lt) (λ j d le h. sides.1 j d le h)
