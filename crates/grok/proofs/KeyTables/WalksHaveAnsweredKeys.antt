-- The pairs of a match have exactly the keys that have a value.
use Rattle.std.proofs.Common.{◌≡◌, ℕ, ◌+◌, Bool, false, cond, List, [], ◌∷◌, Option, Some, None, filter, is_some, refl, sym, ◌∙◌, ap, subst, option_map, arith, ap₂, inl, inr, option_and_then}
use Rattle.std.specs.List.{AllByRecursion, cons_option}
use Rattle.std.specs.List.Sorted.{IsStrictlySortedBy}
use Rattle.std.specs.Map.{lookup, keys_of}
use Rattle.std.specs.Str.{bytes_eq}
use Rattle.std.specs.Cmp.Lexicographic.{slice_cmp}
use Rattle.std.specs.Ordering.{nat_cmp, is_eq, ordering_reverse}
use Rattle.std.specs.declared.cmp.Ordering.TheVariants.{Less}
use Rattle.std.proofs.lemmas.Bool.{cases_Bool}
use Rattle.std.proofs.lemmas.Cmp.{nat_list_cmp_total, eq_by_cmp_equiv}
use Rattle.std.proofs.lemmas.Map.Keys.{IsDistinct-from_sorted}
use Rattle.std.proofs.lemmas.Map.Text.{is_eq-slice_cmp}
use Rattle.std.proofs.lemmas.Map.Views.{Contains-from_lookup, lookup-from_Contains}
use Rattle.grok.specs.GeneratedNames.{generated}
use Rattle.grok.specs.KeyTable.{Entries, group_in, meant_from}
use Rattle.grok.specs.Answers.{capture_at, value_of, walk}
use Rattle.grok.specs.AnswerLaws.{Rises, WalksHaveTheAnsweredKeys, AnswersAreThoseOfTheWalk, GeneratedNamesMeanTheirKeys, OtherNamesMeanThemselves}
use Rattle.grok.proofs.Texts.EqualBytesAreSameText.{same_text, text_same}
use Rattle.grok.proofs.KeyTables.NamesMeanKeys.{meant_given, meant_itself}
use Rattle.grok.proofs.KeyTables.WalksAreSorted.{above_walk, walk_rises}

abbrev Above : List ℕ → List (List ℕ) → Type 0
Above key keys = AllByRecursion (λ y. slice_cmp nat_cmp key y ≡ Less) keys

-- if one key is below another, they aren't equal
below_differs : (key other : List ℕ) → slice_cmp nat_cmp key other ≡ Less → bytes_eq key other ≡ false
below_differs key other below = sym (is_eq-slice_cmp key other) ∙ ap is_eq below

pub above_differs : (key other : List ℕ) → slice_cmp nat_cmp key other ≡ Less → bytes_eq other key ≡ false
above_differs key other below = sym (is_eq-slice_cmp other key) ∙ ap is_eq (nat_list_cmp_total.antisymm other key ∙ ap ordering_reverse below)

absent : {X : Type 0} (key : List ℕ) (es : List (List ℕ × X)) → Above key (keys_of es) → lookup (bytes_eq key) es ≡ None
absent key [] above = refl
absent key (e ∷ es) above = ap (λ b. cond b (Some e.1) (lookup (bytes_eq key) es)) (below_differs key e.0 above.0) ∙ absent key es above.1

module _ (captures : List (Option (List ℕ))) where
  -- looking up a key in the walk gives its value
  walk_answers : (key : List ℕ) (table : Entries) → Rises table → lookup (bytes_eq key) (walk table captures) ≡ value_of table captures key
  unfolding IsStrictlySortedBy
  walk_answers key [] rises = refl
  walk_answers key (e ∷ es) rises =
      let rest = walk es captures in
      elim (cases_Bool (bytes_eq key e.0)) [
        | inl same ↦
            let is : key ≡ e.0 = same_text key e.0 same in
            let none : lookup (bytes_eq key) rest ≡ None = absent key rest (subst (λ k. Above k (keys_of rest)) (sym is) (above_walk captures e.0 es rises.0)) in
            let walked : (o : Option (List ℕ)) → lookup (bytes_eq key) (cons_option (option_map (λ text. (e.0, text)) o) rest) ≡ o =
            elim [ None ↦ none | Some text ↦ ap (λ b. cond b (Some text) (lookup (bytes_eq key) rest)) same ] in
            walked (capture_at captures e.1) ∙ sym (ap (λ b. option_and_then (capture_at captures) (cond b (Some e.1) (group_in es key))) same)
        | inr other ↦
            let walked : (o : Option (List ℕ)) → lookup (bytes_eq key) (cons_option (option_map (λ text. (e.0, text)) o) rest) ≡ lookup (bytes_eq key) rest =
            elim [ None ↦ refl | Some text ↦ ap (λ b. cond b (Some text) (lookup (bytes_eq key) rest)) other ] in
            walked (capture_at captures e.1) ∙ walk_answers key es rises.1 ∙ sym (ap (λ b. option_and_then (capture_at captures) (cond b (Some e.1) (group_in es key))) other)
      ]

  -- a greater key changes no value
  same_answers : (e : List ℕ × ℕ) (es : Entries) (keys : List (List ℕ)) → Above e.0 keys
      → filter (λ key. is_some (value_of (e ∷ es) captures key)) keys ≡ filter (λ key. is_some (value_of es captures key)) keys
  same_answers e es [] above = refl
  same_answers e es (key ∷ keys) above =
      let one : value_of (e ∷ es) captures key ≡ value_of es captures key = ap (λ b. option_and_then (capture_at captures) (cond b (Some e.1) (group_in es key))) (above_differs e.0 key above.0) in
      ap₂ (λ o ks. cond (is_some o) (key ∷ ks) ks) one (same_answers e es keys above.1)

  answered : (table : Entries) → Rises table → keys_of (walk table captures) ≡ filter (λ key. is_some (value_of table captures key)) (keys_of table)
  unfolding IsStrictlySortedBy
  answered [] rises = refl
  answered (e ∷ es) rises =
      let first : value_of (e ∷ es) captures e.0 ≡ capture_at captures e.1 = ap (λ b. option_and_then (capture_at captures) (cond b (Some e.1) (group_in es e.0))) (text_same e.0 e.0 refl) in
      let walked : (o : Option (List ℕ)) → keys_of (cons_option (option_map (λ text. (e.0, text)) o) (walk es captures)) ≡ cond (is_some o) (e.0 ∷ keys_of (walk es captures)) (keys_of (walk es captures)) =
      elim [ None ↦ refl | Some text ↦ refl ] in
      walked (capture_at captures e.1)
      ∙ ap₂ (λ o ks. cond (is_some o) (e.0 ∷ ks) ks) (sym first) (answered es rises.1 ∙ sym (same_answers e es (keys_of es) rises.0))

pub walks_have_the_answered_keys : WalksHaveTheAnsweredKeys
walks_have_the_answered_keys table captures rises = answered captures table rises

pub answers_are_those_of_the_walk : AnswersAreThoseOfTheWalk
answers_are_those_of_the_walk table captures rises key text = (
  λ is. Contains-from_lookup {eq = bytes_eq} same_text key text (walk table captures) (walk_answers captures key table rises ∙ is),
  λ has.
      let found = lookup-from_Contains (eq_by_cmp_equiv nat_list_cmp_total) key text (walk table captures) (IsDistinct-from_sorted (slice_cmp nat_cmp) (keys_of (walk table captures)) (walk_rises captures table rises)) has in
      sym (walk_answers captures key table rises) ∙ ap (λ (test : List ℕ → Bool). lookup test (walk table captures)) (λ i k. sym (is_eq-slice_cmp key k) i) ∙ found,
)

pub generated_names_mean_their_keys : GeneratedNamesMeanTheirKeys
generated_names_mean_their_keys keys number low = let plain : 0 + number ≡ number = omega arith in ap (λ n. meant_from 0 keys (generated n)) (sym plain) ∙ meant_given keys 0 number low

pub other_names_mean_themselves : OtherNamesMeanThemselves
other_names_mean_themselves keys name other = meant_itself keys 0 name (λ number low is. let plain : 0 + number ≡ number = omega arith in other number low (is ∙ ap generated plain))
