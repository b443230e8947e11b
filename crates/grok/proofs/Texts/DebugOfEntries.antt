-- `Debug` writes the entries of a map one after another, in braces.
use Rattle.std.proofs.Common.{◌≡◌, ℕ, List, [], ◌∷◌, ◌++◌, String, string_bytes, map, length, arith, Option, Some, None, Result, Ok, Err, append_assoc, refl, sym, ◌∙◌, ap, subst}
use Rattle.std.specs.Prelude.{IfSome, IsOk, OnOk, codes}
use Rattle.std.specs.Fmt.{IsPlainFormatter, HasWritten, WritesOnOk, DisplaysOnOk, ◌++?◌, comma_space, debug_str, debug_items}
use Rattle.std.specs.declared.fmt.Error.{Error}
use Rattle.std.specs.declared.fmt.Formatter.{Formatter}
use Rattle.std.proofs.lemmas.Grind.{put_two}
use Rattle.std.specs.List.Sorted.{IsStrictlySortedBy}
use Rattle.std.specs.Map.{keys_of}
use Rattle.std.specs.String.{string_cmp}
use Rattle.std.specs.Ordering.{nat_cmp}
use Rattle.std.specs.Cmp.Lexicographic.{slice_cmp}
use Rattle.std.proofs.lemmas.Cmp.{nat_list_cmp_total}
use Rattle.std.specs.FinMap as finite
use Rattle.grok.specs.Debugs.{debug_braces, debug_item, debug_pair, debug_pairs, debug_texts}

pub then_assoc : (o p q : Option (List ℕ)) → (o ++? p) ++? q ≡ o ++? (p ++? q)
then_assoc None p q = refl
then_assoc (Some a) None q = refl
then_assoc (Some a) (Some b) None = refl
then_assoc (Some a) (Some b) (Some c) = ap Some (append_assoc a b c)

module _ {W : Type 0} (took : W → List ℕ → W → Type 0) where
  -- g is f after the text in o was written; if o has no text, g may be anything
  abbrev pub HasShown : Formatter W → Option (List ℕ) → Formatter W → Type 0
  HasShown f o g = IfSome o (λ bs. HasWritten took f bs g)

  shows_then : (f g h : Formatter W) (o p : Option (List ℕ)) → HasShown f o g → (IsPlainFormatter g → HasShown g p h) → HasShown f (o ++? p) h
  shows_then f g h None p x y = tt
  shows_then f g h (Some a) None x y = tt
  shows_then f g h (Some a) (Some b) x y = put_two took f g h a b (a ++ b) x (y x.plain) refl

  shows_from : (f g : Formatter W) (r : Result (Unit {0}) Error) (o : Option (List ℕ)) → DisplaysOnOk took f r o g → IsPlainFormatter f → IsOk r → HasShown f o g
  shows_from f g r None x plain ok = tt
  shows_from f g r (Some a) x plain ok = x plain ok

  displays_from : (f g : Formatter W) (r : Result (Unit {0}) Error) (o : Option (List ℕ)) → (IsPlainFormatter f → IsOk r → HasShown f o g) → DisplaysOnOk took f r o g
  displays_from f g r None k = tt
  displays_from f g r (Some a) k = k

  -- two writes, where the second comes after the first
  pub displays_then : (f g h : Formatter W) (first second : Result (Unit {0}) Error) (o p : Option (List ℕ)) → DisplaysOnOk took f first o g → IsOk first → DisplaysOnOk took g second p h
      → DisplaysOnOk took f second (o ++? p) h
  displays_then f g h first second o p x ok y = displays_from f h second (o ++? p) (λ plain fine.
      shows_then f g h o p (shows_from f g first o x plain ok) (λ still. shows_from g h second p y still fine))

  -- the same text in other words
  pub displays_same : (f g : Formatter W) (r : Result (Unit {0}) Error) (o p : Option (List ℕ)) → DisplaysOnOk took f r o g → (IsOk r → o ≡ p) → DisplaysOnOk took f r p g
  displays_same f g r o p x same = displays_from f g r p (λ plain ok. subst (λ (q : Option (List ℕ)). HasShown f q g) (same ok) (shows_from f g r o x plain ok))

  module _ {X : Type 0} (text : X → Option (List ℕ)) where
    -- what was written and what is still to be written are together the output after the first brace
    pub record IsWriting (start : Formatter W) (whole : List X) (f : Formatter W) (lead : List ℕ) (left : List X) : Type 0 where
      pub done : Option (List ℕ)
      pub shows : HasShown start done f
      pub makes : done ++? debug_items text lead left ≡ Some (codes "{") ++? debug_items text [] whole

    pub begins : (start f : Formatter W) (whole : List X) → HasWritten took start (codes "{") f → IsWriting start whole f [] whole
    begins start f whole has = record { done = Some (codes "{"); shows = has; makes = refl }

    pub goes_on : (start f g : Formatter W) (whole : List X) (lead : List ℕ) (x : X) (left : List X) (r : Result (Unit {0}) Error)
        → IsWriting start whole f lead (x ∷ left) → DisplaysOnOk took f r (Some lead ++? text x) g → IsOk r → IsWriting start whole g comma_space left
    goes_on start f g whole lead x left r so_far wrote ok = record {
      done = so_far.done ++? (Some lead ++? text x);
      shows = shows_then start f g so_far.done (Some lead ++? text x) so_far.shows (λ plain. shows_from f g r (Some lead ++? text x) wrote plain ok);
      makes = then_assoc so_far.done (Some lead ++? text x) (debug_items text comma_space left)
          ∙ ap (λ o. so_far.done ++? o) (then_assoc (Some lead) (text x) (debug_items text comma_space left)) ∙ so_far.makes;
    }

    pub ends : (start f g : Formatter W) (whole : List X) (lead : List ℕ) (r : Result (Unit {0}) Error)
        → (IsPlainFormatter start → IsWriting start whole f lead []) → WritesOnOk took f r (codes "}") g → DisplaysOnOk took start r (debug_braces text whole) g
    ends start f g whole lead r all wrote = displays_from start g r (debug_braces text whole) (λ plain ok.
        let so_far = all plain in
        let last : so_far.done ++? Some (codes "}") ≡ debug_braces text whole =
        sym (then_assoc so_far.done (Some []) (Some (codes "}"))) ∙ ap (λ o. o ++? Some (codes "}")) so_far.makes
        ∙ then_assoc (Some (codes "{")) (debug_items text [] whole) (Some (codes "}")) in
        subst (λ (o : Option (List ℕ)). HasShown start o g) last (shows_then start f g so_far.done (Some (codes "}")) so_far.shows (λ still. wrote still ok)))

pub true_on_ok : (r : Result (Unit {0}) Error) (P : Type 0) → OnOk r P → IsOk r → P
true_on_ok (Ok x) P h ok = h
true_on_ok (Err e) P h ok = cc

-- ---- maps

no_entries : (es : List (List ℕ × List ℕ)) → length es ≡ 0 → es ≡ []
no_entries [] h = refl
no_entries (e ∷ es) h = absurd (omega arith)

module _ {A V : Type 0} (text : V → List ℕ) where
  -- the name and the text of each entry
  abbrev pub shown : List (String A × V) → List (List ℕ × List ℕ)
  shown es = map (λ e. (string_bytes e.0, text e.1)) es

  shown_keys : (es : List (String A × V)) → map string_bytes (keys_of es) ≡ map (λ e. e.0) (shown es)
  shown_keys [] = refl
  shown_keys (e ∷ es) = ap (λ names. string_bytes e.0 ∷ names) (shown_keys es)

  -- entries in rising order are the entries of their map
  in_order : (es : List (String A × V)) → IsStrictlySortedBy string_cmp (keys_of es) → finite.entries (finite.from_entries {R = slice_cmp nat_cmp} (shown es)) ≡ shown es
  unfolding IsStrictlySortedBy
  in_order [] rise = no_entries _ (sym (finite.len-entries finite.empty) ∙ finite.len-empty (slice_cmp nat_cmp) (List ℕ))
  in_order (e ∷ []) rise =
      finite.entries-insert nat_list_cmp_total finite.empty (string_bytes e.0) (text e.1) ∙ ap (finite.put (slice_cmp nat_cmp) (string_bytes e.0) (text e.1)) (in_order [] tt)
  in_order (e ∷ f ∷ es) rise =
      finite.entries-insert nat_list_cmp_total (finite.from_entries (shown (f ∷ es))) (string_bytes e.0) (text e.1)
      ∙ ap (finite.put (slice_cmp nat_cmp) (string_bytes e.0) (text e.1)) (in_order (f ∷ es) rise.1) ∙ rw rise.0.0 refl

  same_items : (lead : List ℕ) (es : List (String A × V)) → debug_items (debug_item (λ v. debug_str (text v))) lead es ≡ debug_items debug_pair lead (shown es)
  same_items lead [] = refl
  same_items lead (e ∷ es) = ap (λ o. Some lead ++? debug_pair (string_bytes e.0, text e.1) ++? o) (same_items comma_space es)

  pub texts_shown : (es : List (String A × V)) → IsStrictlySortedBy string_cmp (keys_of es)
      → debug_braces (debug_item (λ v. debug_str (text v))) es ≡ debug_texts (finite.from_entries (shown es))
  texts_shown es rise = ap (λ o. Some (codes "{") ++? o ++? Some (codes "}")) (same_items [] es) ∙ ap debug_pairs (sym (in_order es rise))

  -- the names of a map are those of its entries
  pub names_in_order : (es : List (String A × V)) → IsStrictlySortedBy string_cmp (keys_of es)
      → map string_bytes (keys_of es) ≡ finite.keys (finite.from_entries {R = slice_cmp nat_cmp} (shown es))
  names_in_order es rise = shown_keys es ∙ ap (map (λ e. e.0)) (sym (in_order es rise))
