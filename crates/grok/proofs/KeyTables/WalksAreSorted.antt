-- The pairs of a match come in the order of the key table, and so does a map that is filled with them.
use Rattle.std.proofs.Common.{◌≡◌, ℕ, List, [], ◌∷◌, ◌++◌, map, Bor, String, string_bytes, Option, Some, None, cond, refl, sym, ◌∙◌, ap, subst, option_map, append_assoc, true, false}
use Rattle.std.specs.BTreeMap.{BTreeMap, get_by_text, insert_entry}
use Rattle.std.specs.FinMap as finite
use Rattle.std.specs.List.{AllByRecursion, cons_option}
use Rattle.std.specs.List.Sorted.{IsStrictlySortedBy}
use Rattle.std.specs.Map.{lookup, keys_of}
use Rattle.std.specs.Cmp.Lexicographic.{slice_cmp}
use Rattle.std.specs.Ordering.{nat_cmp, is_eq, ordering_reverse, match_ordering}
use Rattle.std.specs.declared.cmp.Ordering.TheVariants.{Less, Greater}
use Rattle.std.proofs.lemmas.Cmp.{nat_list_cmp_total}
use Rattle.std.proofs.lemmas.List.{map-append}
use Rattle.grok.specs.Maps.{pair_texts}
use Rattle.grok.specs.KeyTable.{Entries}
use Rattle.grok.specs.Answers.{extract_texts, capture_at, walk}

-- ---- extracts

found_in : {A : Type 0} (entries : List (String A × String A)) (name : List ℕ) →
    finite.find (slice_cmp nat_cmp) name (map (λ entry. (string_bytes entry.0, string_bytes entry.1)) entries) ≡ option_map string_bytes (lookup (λ k. is_eq (slice_cmp nat_cmp name (string_bytes k))) entries)
found_in [] name = refl
found_in (e ∷ es) name =
    elim (is_eq (slice_cmp nat_cmp name (string_bytes e.0))) as (λ b. cond b (Some (string_bytes e.1)) (finite.find (slice_cmp nat_cmp) name (map (λ entry. (string_bytes entry.0, string_bytes entry.1)) es)) ≡ option_map string_bytes (cond b (Some e.1) (lookup (λ k. is_eq (slice_cmp nat_cmp name (string_bytes k))) es))) [
      | true ↦ refl
      | false ↦ found_in es name
    ]

-- looking up an extract in the finite map gives what the tree map gives
pub extract_found : {A : Type 0} (m : BTreeMap (String A) (String A)) (name : List ℕ) → finite.get (extract_texts m.entries) name ≡ option_map string_bytes (get_by_text m name)
extract_found m name = finite.get-from_entries nat_list_cmp_total _ name ∙ found_in m.entries name

-- ---- walks

module _ (captures : List (Option (List ℕ))) where
  pub above_walk : (key : List ℕ) (table : Entries) → AllByRecursion (λ y. slice_cmp nat_cmp key y ≡ Less) (keys_of table) → AllByRecursion (λ y. slice_cmp nat_cmp key y ≡ Less) (keys_of (walk table captures))
  above_walk key [] above = tt
  above_walk key (e ∷ es) above =
      elim (capture_at captures e.1) as (λ o. AllByRecursion (λ y. slice_cmp nat_cmp key y ≡ Less) (keys_of (cons_option (option_map (λ text. (e.0, text)) o) (walk es captures)))) [
        | None ↦ above_walk key es above.1
        | Some text ↦ (above.0, above_walk key es above.1)
      ]

  -- the keys of a walk are sorted, as those of its table are
  pub walk_rises : (table : Entries) → IsStrictlySortedBy (slice_cmp nat_cmp) (keys_of table) → IsStrictlySortedBy (slice_cmp nat_cmp) (keys_of (walk table captures))
  unfolding IsStrictlySortedBy
  walk_rises [] rises = tt
  walk_rises (e ∷ es) rises =
      elim (capture_at captures e.1) as (λ o. IsStrictlySortedBy (slice_cmp nat_cmp) (keys_of (cons_option (option_map (λ text. (e.0, text)) o) (walk es captures)))) [
        | None ↦ walk_rises es rises.1
        | Some text ↦ (above_walk e.0 es rises.0, walk_rises es rises.1)
      ]

-- ---- maps that are filled in rising order

abbrev pub Pairs : Type 0
Pairs = List (Bor (List ℕ) × Bor (List ℕ))

at_seam : (P : List ℕ → Type 0) (es : Pairs) (pair : List ℕ × List ℕ) (rest : List (List ℕ × List ℕ)) → AllByRecursion P (keys_of (map pair_texts es ++ pair ∷ rest)) → P pair.0
at_seam P [] pair rest all = all.0
at_seam P (e ∷ es) pair rest all = at_seam P es pair rest all.1

put_last : (es : Pairs) (key text : Bor (List ℕ)) (rest : List (List ℕ × List ℕ)) → IsStrictlySortedBy (slice_cmp nat_cmp) (keys_of (map pair_texts es ++ (key.now, text.now) ∷ rest))
    → insert_entry (λ (a b : Bor (List ℕ)). slice_cmp nat_cmp a.now b.now) es key text ≡ es ++ (key, text) ∷ []
unfolding IsStrictlySortedBy
put_last [] key text rest rises = refl
put_last (e ∷ es) key text rest rises =
    let below : slice_cmp nat_cmp e.0.now key.now ≡ Less = at_seam (λ y. slice_cmp nat_cmp e.0.now y ≡ Less) es (key.now, text.now) rest rises.0 in
    let above : slice_cmp nat_cmp key.now e.0.now ≡ Greater = nat_list_cmp_total.antisymm key.now e.0.now ∙ ap ordering_reverse below in
    let later = insert_entry (λ (a b : Bor (List ℕ)). slice_cmp nat_cmp a.now b.now) es key text in
    ap (λ o. match_ordering o ((key, text) ∷ e ∷ es) ((e.0, text) ∷ es) (e ∷ later)) above ∙ ap (λ xs. e ∷ xs) (put_last es key text rest rises.1)

-- the list so far and the remaining pairs are all pairs, also after one more step
pub push_more : (es : Pairs) (pair : Bor (List ℕ) × Bor (List ℕ)) (left rest all : List (List ℕ × List ℕ)) → map pair_texts es ++ left ≡ all → left ≡ pair_texts pair ∷ rest
    → map pair_texts (es ++ pair ∷ []) ++ rest ≡ all
push_more es pair left rest all whole next =
    ap (λ xs. xs ++ rest) (map-append pair_texts es (pair ∷ [])) ∙ (append_assoc (map pair_texts es) (pair_texts pair ∷ []) rest ∙ (ap (λ xs. map pair_texts es ++ xs) (sym next) ∙ whole))

-- the map so far and the remaining pairs are all pairs, also after one more step
pub put_more : (es : Pairs) (key text : Bor (List ℕ)) (left rest all : List (List ℕ × List ℕ)) → IsStrictlySortedBy (slice_cmp nat_cmp) (keys_of all)
    → map pair_texts es ++ left ≡ all → left ≡ pair_texts (key, text) ∷ rest → map pair_texts (insert_entry (λ (a b : Bor (List ℕ)). slice_cmp nat_cmp a.now b.now) es key text) ++ rest ≡ all
put_more es key text left rest all rises whole next =
    let here : map pair_texts es ++ (key.now, text.now) ∷ rest ≡ all = ap (λ xs. map pair_texts es ++ xs) (sym next) ∙ whole in
    let last = put_last es key text rest (subst (λ xs. IsStrictlySortedBy (slice_cmp nat_cmp) (keys_of xs)) (sym here) rises) in
    ap (λ xs. map pair_texts xs ++ rest) last ∙ push_more es (key, text) left rest all whole next
