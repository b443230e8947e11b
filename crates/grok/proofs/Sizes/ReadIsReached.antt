-- What is read for a pattern, and which definitions are used, is what the tree reaches.
use Rattle.std.proofs.Common.{◌≡◌, ℕ, ◌≤◌, ◌+◌, Bool, true, List, length, Result, None, Ok, Err, refl, sym, ◌∙◌, inl, inr, arith}
use Rattle.grok.specs.Tree.{Definitions, Fault, Item, Event, first_structural, tree_within, reached}
use Rattle.grok.specs.Keys.{has_numbered_alias}
use Rattle.grok.specs.steps.Sizes.{Size}
use Rattle.grok.specs.steps.MeasuredOnce.{State, measure_within}
use Rattle.grok.specs.Measured.{reaches, weighed}
use Rattle.grok.proofs.Sizes.TextsWithoutPlaceholders.{IsSound}
use Rattle.grok.proofs.Sizes.CountersAreExact.{IsTable, weighed_le, weighed_same, is_started, counts_pieces, counts_ends, measure_counts}
use Rattle.grok.proofs.Sizes.ReachedPlaceholdersAreSeen.{alike, fault_of, tree_fault, measure_numbers, measure_meets}

-- the weight of the pattern and of each definition in the table whose name the tree reaches
abbrev pub table_weight : (List ℕ → ℕ) → List (List ℕ × List ℕ) → List ℕ → List Event → ℕ
table_weight weight entries pattern tree = weight pattern + weighed weight (λ name. reaches name (reached tree)) entries

-- THE THEOREM: what was used and counted is at most what the tree reaches, and exactly that for a clean tree.
pub record ReadsTree (resolve : List ℕ → List Item) (entries : List (List ℕ × List ℕ)) (pattern : List ℕ) (tree : List Event) (st : State) : Type 0 where
  pub has_numbered : st.has_numbered ≡ has_numbered_alias (reached tree)
  pub looks : st.looks ≤ table_weight (λ text. length (resolve text)) entries pattern tree
  pub ends : st.ends ≤ table_weight (λ text. 1) entries pattern tree
  pub looks_exact : first_structural tree ≡ None → st.looks ≡ table_weight (λ text. length (resolve text)) entries pattern tree
  pub ends_exact : first_structural tree ≡ None → st.ends ≡ table_weight (λ text. 1) entries pattern tree

clean_ok : (r : Result Size Fault) → fault_of r ≡ None → (size : Size) × (r ≡ Ok size)
clean_ok (Ok size) clean = (size, refl)
clean_ok (Err fault) clean = cc

module _ (alias_only : Bool) (resolve : List ℕ → List Item) (definitions : Definitions) (entries : List (List ℕ × List ℕ)) (table : IsTable definitions entries) (sound : IsSound resolve definitions) where
  pub reads_tree : (levels : ℕ) (pattern : List ℕ) → ReadsTree resolve entries pattern (tree_within levels resolve pattern) (measure_within levels alias_only resolve pattern).1
  reads_tree levels pattern =
      let answer = measure_within levels alias_only resolve pattern in
      let tree = tree_within levels resolve pattern in
      let meets = measure_meets alias_only resolve definitions sound levels pattern in
      let only : (name : List ℕ) → is_started answer.1 name ≡ true → reaches name (reached tree) ≡ true = λ name. (meets name).only in
      let ok : first_structural tree ≡ None → (size : Size) × (answer.0 ≡ Ok size) = λ clean. clean_ok answer.0 (sym (tree_fault alias_only resolve definitions sound levels pattern) ∙ clean) in
      let same : (size : Size) → answer.0 ≡ Ok size → (name : List ℕ) → is_started answer.1 name ≡ reaches name (reached tree) =
      λ size e name. alike _ _ (only name) (λ there. elim ((meets name).every there) [ inl on ↦ on | inr (fault, other, failed, watched) ↦ let bad : Ok size ≡ Err fault = sym e ∙ failed in cc ]) in
      let pieces = measure_counts alias_only resolve definitions entries table (λ looks ends. looks) (λ items. length items) counts_pieces sound levels pattern in
      let ends = measure_counts alias_only resolve definitions entries table (λ looks ends. ends) (λ items. 1) counts_ends sound levels pattern in
      record {
        has_numbered = measure_numbers alias_only resolve definitions sound levels pattern;
        looks = omega (arith, pieces.adds, weighed_le (λ text. length (resolve text)) (is_started answer.1) (λ name. reaches name (reached tree)) entries only);
        ends = omega (arith, ends.adds, weighed_le (λ text. 1) (is_started answer.1) (λ name. reaches name (reached tree)) entries only);
        looks_exact = λ clean.
            let (size, e) = ok clean in
            omega (arith, pieces.adds, pieces.all size e, weighed_same (λ text. length (resolve text)) (is_started answer.1) (λ name. reaches name (reached tree)) entries (same size e));
        ends_exact = λ clean.
            let (size, e) = ok clean in
            omega (arith, ends.adds, ends.all size e, weighed_same (λ text. 1) (is_started answer.1) (λ name. reaches name (reached tree)) entries (same size e));
      }
