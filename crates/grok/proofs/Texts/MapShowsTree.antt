-- Looking up a name in the finite map gives what the `BTreeMap` gives, also after a text was set.
use Rattle.std.proofs.Common.{◌≡◌, ℕ, List, [], ◌∷◌, String, string_bytes, Bool, true, false, cond, Some, refl, sym, ap, ◌∙◌}
use Rattle.std.specs.BTreeMap.{BTreeMap, get_by_text, insert_entry}
use Rattle.std.specs.List.{AllZip}
use Rattle.std.specs.Map.{lookup}
use Rattle.std.specs.Ordering.{is_eq, nat_cmp}
use Rattle.std.specs.declared.cmp.Ordering.{Ordering}
use Rattle.std.specs.declared.cmp.Ordering.TheVariants.{Less, Equal, Greater}
use Rattle.std.specs.Cmp.Lexicographic.{slice_cmp}
use Rattle.std.specs.String.{string_cmp}
use Rattle.std.proofs.lemmas.Cmp.{nat_list_cmp_total, tied_itself}
use Rattle.std.specs.FinMap as finite
use Rattle.grok.specs.Maps.{entry_texts, texts_of}

found_in : {A : Type 0} (entries : List (String A × List ℕ)) (name : List ℕ) →
    finite.find (slice_cmp nat_cmp) name (entry_texts entries) ≡ lookup (λ k. is_eq (slice_cmp nat_cmp name (string_bytes k))) entries
found_in [] name = refl
found_in (e ∷ es) name = ap (cond (is_eq (slice_cmp nat_cmp name (string_bytes e.0))) (Some e.1)) (found_in es name)

pub text_found : {A : Type 0} (m : BTreeMap (String A) (List ℕ)) (name : List ℕ) → finite.get (texts_of m.entries) name ≡ get_by_text m name
text_found m name = finite.get-from_entries nat_list_cmp_total _ name ∙ found_in m.entries name

-- ---- a text that is set

abbrev pub bytes_cmp : List ℕ → List ℕ → Ordering
bytes_cmp = slice_cmp nat_cmp

pub same_bytes : (x y : List ℕ) → bytes_cmp x y ≡ Equal → x ≡ y
same_bytes = finite.slice_cmp-IsAntisymmetric finite.nat_cmp-IsAntisymmetric

twice : {X : Type 0} (b : Bool) (x y z : X) → cond b x z ≡ cond b x (cond b y z)
twice true x y z = refl
twice false x y z = refl

apart : {X : Type 0} (a b : Bool) (x y z : X) → ¬ ((a ≡ true) × (b ≡ true)) → cond a y (cond b x z) ≡ cond b x (cond a y z)
apart true true x y z n = absurd (n (refl, refl))
apart true false x y z n = refl
apart false true x y z n = refl
apart false false x y z n = refl

pub is_equal : (r : Ordering) → is_eq r ≡ true → r ≡ Equal
is_equal Less e = cc
is_equal Equal e = refl
is_equal Greater e = cc

-- a name compares equal to two names only if these compare equal
not_equal_to_both : (q k e : List ℕ) → bytes_cmp k e ≡ Greater → ¬ ((is_eq (bytes_cmp q e) ≡ true) × (is_eq (bytes_cmp q k) ≡ true))
not_equal_to_both q k e g h =
    let x : q ≡ e = same_bytes q e (is_equal _ h.0) in
    let y : q ≡ k = same_bytes q k (is_equal _ h.1) in
    let z : bytes_cmp k e ≡ Equal = ap (λ s. bytes_cmp k s) (sym x ∙ y) ∙ tied_itself nat_list_cmp_total k in
    cc

module _ {A : Type 0} (key : String A) (text : List ℕ) (q : List ℕ) where
  abbrev b : List ℕ
  b = string_bytes key

  found_by : (e : String A × List ℕ) (es : List (String A × List ℕ)) →
      finite.find bytes_cmp q (entry_texts (insert_entry string_cmp es key text)) ≡ cond (is_eq (bytes_cmp q b)) (Some text) (finite.find bytes_cmp q (entry_texts es)) →
      (r : Ordering) → bytes_cmp b (string_bytes e.0) ≡ r → finite.find bytes_cmp q (entry_texts (insert_entry string_cmp (e ∷ es) key text)) ≡ cond (is_eq (bytes_cmp q b)) (Some text) (finite.find bytes_cmp q (entry_texts (e ∷ es)))
  found_by e es h Less o = rw o refl
  found_by e es h Equal o = let same : b ≡ string_bytes e.0 = same_bytes _ _ o in rw o (rw same (twice (is_eq (bytes_cmp q (string_bytes e.0))) (Some text) (Some e.1) (finite.find bytes_cmp q (entry_texts es))))
  found_by e es h Greater o = rw o (ap (cond (is_eq (bytes_cmp q (string_bytes e.0))) (Some e.1)) h ∙ apart (is_eq (bytes_cmp q (string_bytes e.0))) (is_eq (bytes_cmp q b)) (Some text) (Some e.1) (finite.find bytes_cmp q (entry_texts es)) (not_equal_to_both q b (string_bytes e.0) o))

  found_after : (entries : List (String A × List ℕ)) →
      finite.find bytes_cmp q (entry_texts (insert_entry string_cmp entries key text)) ≡ cond (is_eq (bytes_cmp q b)) (Some text) (finite.find bytes_cmp q (entry_texts entries))
  found_after [] = refl
  found_after (e ∷ es) = found_by e es (found_after es) (bytes_cmp b (string_bytes e.0)) refl

pub text_set : {A : Type 0} (entries : List (String A × List ℕ)) (key : String A) (text : List ℕ) → texts_of (insert_entry string_cmp entries key text) ≡ finite.insert (texts_of entries) (string_bytes key) text
text_set entries key text =
    finite.same_map nat_list_cmp_total (finite.slice_cmp-IsAntisymmetric finite.nat_cmp-IsAntisymmetric) _ _
    (λ q. finite.get-from_entries nat_list_cmp_total _ q
    ∙ (found_after key text q entries
    ∙ sym (finite.get-insert nat_list_cmp_total _ (string_bytes key) text q ∙ ap (cond (is_eq (bytes_cmp q (string_bytes key))) (Some text)) (finite.get-from_entries nat_list_cmp_total _ q))))

-- ---- texts that are copied

pub same_texts : {A : Type 0} (es fs : List (String A × List ℕ)) → AllZip (λ p r. (string_bytes r.0 ≡ string_bytes p.0) × (r.1 ≡ p.1)) es fs → texts_of fs ≡ texts_of es
same_texts [] [] h = refl
same_texts [] (f ∷ fs) h = absurd h
same_texts (e ∷ es) [] h = absurd h
same_texts (e ∷ es) (f ∷ fs) h =
    let more = same_texts es fs h.1 in
    rw h.0.0 (rw h.0.1 (ap (λ m. finite.insert m (string_bytes e.0) e.1) more))
