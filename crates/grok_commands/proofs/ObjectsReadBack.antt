-- The events that are sent for pairs write the text of their object, and if the keys of the pairs are in order, this
-- text reads back as the pairs.
use Rattle.std.proofs.Common.{◌≡◌, ℕ, List, [], ◌∷◌, ◌++◌, ◌≤◌, Some, None, false, Less, Greater, refl, sym, ap, ◌∙◌, subst, append_assoc, append-nil, arith, option_map, option_and_then}
use Rattle.std.proofs.lemmas.Cmp.{nat_list_cmp_total}
use Rattle.std.specs.Ordering.{nat_cmp, ordering_reverse}
use Rattle.std.specs.Cmp.Lexicographic.{slice_cmp}
use Rattle.std.specs.List.{AllByRecursion}
use Rattle.std.specs.List.Sorted.{IsStrictlySortedBy}
use Rattle.std.specs.Map.{keys_of}
use Rattle.json.specs.Lex.{tokens}
use Rattle.json.specs.Json.{if_last}
use Rattle.json.specs.Json.{value as read_value}
use Rattle.json.specs.Tree as tree
use Rattle.json.proofs.Printed.Tokens.{tokens-print}
use Rattle.json.proofs.Printed.Trees.{value-json_tokens, ArePrintable-json_tokens}
use Rattle.serde.specs.Event as event
use Rattle.serde.specs.Event.{Event, Log, Logs}
use Rattle.serde.specs.declared.name.Case.TheVariants.{AsIs}
use Rattle.serde_json.specs.Data as value
use Rattle.serde_json.specs.Events.{members_len, SendsMembers}
use Rattle.serde_json.specs.Sent.{IsTextOf}
use Rattle.serde_json.specs.Read.{of_json, of_members, max_depth}
use Rattle.serde_json.specs.Written.{outline, members_outline, members_have_float}
use Rattle.serde_json.proofs.FreeTexts.{text_of_value}
use Rattle.serde_json.proofs.Texts.{print-outline}
use Rattle.grok_commands.specs.JsonEvents.{SendsObject}
use Rattle.grok_commands.specs.JsonObjects.{members_of, object_of, object_text, pairs_in, pairs_in_members, ReadsBack}

-- the events of the members, and of the end
abbrev pair_events : List (List ℕ × List ℕ) → List Event
pair_events [] = event.map_ends ∷ []
pair_events (pair ∷ pairs) = event.field_key pair.0 AsIs ∷ (event.text pair.1 ∷ pair_events pairs)

members_known : (pairs : List (List ℕ × List ℕ)) (es : List Event) (log : Log) → SendsMembers (members_of pairs) (Some es) log → log ≡ Some (es ++ pair_events pairs)
members_known [] es log h = h
members_known (pair ∷ pairs) es log h =
    let named = es ++ event.field_key pair.0 AsIs ∷ [] in
    let mid : h.1 ≡ Some (named ++ event.text pair.1 ∷ []) = subst (λ l. Logs l h.1 (event.text pair.1)) h.2 h.3 in
    members_known pairs _ log (subst (λ l. SendsMembers (members_of pairs) l log) mid h.4)
    ∙ ap Some (append_assoc named (event.text pair.1 ∷ []) (pair_events pairs) ∙ append_assoc es (event.field_key pair.0 AsIs ∷ []) (event.text pair.1 ∷ pair_events pairs))

members_sent : (pairs : List (List ℕ × List ℕ)) (es : List Event) (log : Log) → log ≡ Some (es ++ pair_events pairs) → SendsMembers (members_of pairs) (Some es) log
members_sent [] es log h = h
members_sent (pair ∷ pairs) es log h =
    let named = es ++ event.field_key pair.0 AsIs ∷ [] in (
      Some named,
      Some (named ++ event.text pair.1 ∷ []),
      refl,
      refl,
      members_sent pairs _ log (h ∙ ap Some (sym (append_assoc named (event.text pair.1 ∷ []) (pair_events pairs) ∙ append_assoc es (event.field_key pair.0 AsIs ∷ []) (event.text pair.1 ∷ pair_events pairs)))),
    )

no_floats : (pairs : List (List ℕ × List ℕ)) → members_have_float (members_of pairs) ≡ false
no_floats [] = refl
no_floats (pair ∷ pairs) = no_floats pairs

-- The text of these events is that of the value: `Takes` gives the same tokens whether the number of members is stated or not.
pub text_of_sent : (pairs : List (List ℕ × List ℕ)) (log : Log) (text : List ℕ) → SendsObject pairs (Some []) log → IsTextOf log text → text ≡ object_text pairs
text_of_sent pairs log text sent is =
    let counted = event.map_begins (Some (members_len (members_of pairs))) in
    let known : log ≡ Some (event.map_begins None ∷ pair_events pairs) =
    members_known pairs (event.map_begins None ∷ []) log (subst (λ l. SendsMembers (members_of pairs) l log) sent.1 sent.2) in
    let is_text : IsTextOf (Some (counted ∷ pair_events pairs)) text = subst (λ l. IsTextOf l text) known is in
    text_of_value (object_of pairs) (Some (counted ∷ pair_events pairs)) text
    (Some (counted ∷ []), refl, members_sent pairs (counted ∷ []) (Some (counted ∷ pair_events pairs)) refl) is_text (no_floats pairs)

-- ---- reading back

below_middle : (first : List ℕ) (pairs more : List (List ℕ × List ℕ)) (pair : List ℕ × List ℕ)
    → AllByRecursion (λ later. slice_cmp nat_cmp first later ≡ Less) (keys_of (pairs ++ pair ∷ more)) → slice_cmp nat_cmp first pair.0 ≡ Less
below_middle first [] more pair h = h.0
below_middle first (x ∷ pairs) more pair h = below_middle first pairs more pair h.1

-- a key that is above those before it goes last
put_last : (done more : List (List ℕ × List ℕ)) (pair : List ℕ × List ℕ) → IsStrictlySortedBy (slice_cmp nat_cmp) (keys_of (done ++ pair ∷ more))
    → value.put pair.0 (value.string pair.1) (members_of done) ≡ members_of (done ++ pair ∷ [])
unfolding IsStrictlySortedBy
put_last [] more pair h = refl
put_last (first ∷ done) more pair h =
    let above : slice_cmp nat_cmp pair.0 first.0 ≡ Greater =
    nat_list_cmp_total.antisymm pair.0 first.0 ∙ ap ordering_reverse (below_middle first.0 done more pair h.0) in
    rw above (ap (value.member first.0 (value.string first.1)) (put_last done more pair h.1))

members_back : (done pairs : List (List ℕ × List ℕ)) → IsStrictlySortedBy (slice_cmp nat_cmp) (keys_of (done ++ pairs))
    → of_members (members_outline (members_of pairs)) (members_of done) ≡ Some (members_of (done ++ pairs))
members_back done [] h = ap (λ pairs. Some (members_of pairs)) (sym (append-nil done))
members_back done (pair ∷ pairs) h =
    let regrouped : (done ++ pair ∷ []) ++ pairs ≡ done ++ pair ∷ pairs = append_assoc done (pair ∷ []) pairs in
    let sorted : IsStrictlySortedBy (slice_cmp nat_cmp) (keys_of ((done ++ pair ∷ []) ++ pairs)) = rw regrouped h in
    ap (of_members (members_outline (members_of pairs))) (put_last done pairs pair h)
    ∙ members_back (done ++ pair ∷ []) pairs sorted ∙ ap (λ pairs. Some (members_of pairs)) regrouped

no_numbers : (pairs : List (List ℕ × List ℕ)) → tree.MembersHaveNumbers (members_outline (members_of pairs))
no_numbers [] = tt
no_numbers (pair ∷ pairs) = (tt, no_numbers pairs)

flat : (pairs : List (List ℕ × List ℕ)) → tree.members_depth (members_outline (members_of pairs)) ≤ 0
flat [] = omega arith
flat (pair ∷ pairs) = omega (arith, flat pairs)

pairs_back : (pairs : List (List ℕ × List ℕ)) → pairs_in_members (members_of pairs) ≡ Some pairs
pairs_back [] = refl
pairs_back (pair ∷ pairs) = ap (option_map (λ pairs. pair ∷ pairs)) (pairs_back pairs)

pub reads_back : (pairs : List (List ℕ × List ℕ)) → ReadsBack pairs (object_text pairs)
reads_back pairs sorted =
    let json = outline (object_of pairs) in
    let lexed : tokens (object_text pairs) ≡ tree.json_tokens json ++ [] =
    ap tokens (sym (print-outline (object_of pairs))) ∙ tokens-print (tree.json_tokens json) (ArePrintable-json_tokens json (no_numbers pairs)) ∙ sym (append-nil (tree.json_tokens json)) in
    let parsed : read_value max_depth (tokens (object_text pairs)) ≡ Some (json, []) = ap (read_value max_depth) lexed ∙ value-json_tokens json max_depth [] (omega (arith, flat pairs)) in
    ap (λ found. option_and_then pairs_in (option_and_then of_json (option_and_then (λ p. if_last p.0 p.1) found))) parsed
    ∙ ap (λ found. option_and_then pairs_in (option_map value.object found)) (members_back [] pairs sorted)
    ∙ pairs_back pairs
