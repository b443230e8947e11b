-- The search handles each base key that can clash, and in the end all of them are free.
use Rattle.std.proofs.Common.{◌≡◌, ℕ, zero, suc, ◌<◌, ◌≤◌, Bool, true, false, cond, List, [], ◌∷◌, ◌++◌, ◌⊎◌, length, slice_get, Some, None, Option, Vec, Global, Bor, BTreeMap, refl, sym, ◌∙◌, ap, subst, inl, inr, arith}
use Rattle.std.specs.Prelude.{is_some}
use Rattle.std.specs.Str.{bytes_eq}
use Rattle.std.specs.List.{AllByRecursion}
use Rattle.std.specs.Map.{lookup}
use Rattle.std.specs.BTreeMap.{is_at, get_by, IsEmpty}
use Rattle.std.specs.Cmp.Lexicographic.{slice_cmp}
use Rattle.std.specs.Ordering.{nat_cmp}
use Rattle.std.proofs.lemmas.Bool.{true≢false, cases_Bool, cases_eq, cases_lt}
use Rattle.std.proofs.lemmas.List.{get_or_past}
use Rattle.std.proofs.lemmas.Map.Text.{is_eq-slice_cmp}
use Rattle.grok.specs.Keys.{numbered, ends_in_number}
use Rattle.grok.specs.steps.KeyUses.{MayBeUsed, IsFree}
use Rattle.grok.specs.declared.expand.rows.Row.{Row}
use Rattle.grok.specs.declared.expand.rows.Row.TheVariants.{Use, Part}
use Rattle.grok.specs.steps.Rows.{uses_in, part_keys, flat, AreBelow, AreKeysOfParts}
use Rattle.grok.specs.steps.CountedUses.{has_base, HasBasesOf}
use Rattle.grok.proofs.Texts.EqualBytesAreSameText.{same_text, text_same}
use Rattle.grok.proofs.Keys.NumberedKeysEndInNumber.{numbered_ends}
use Rattle.grok.proofs.Keys.KeysAreDistinct.{numbered_both}
use Rattle.grok.proofs.Keys.UsesOfKeys.{uses_in-append, not_used, AreFewer, free_if_fewer}

used_is : (key other : List ℕ) → 0 < uses_in (key ∷ []) other → key ≡ other
used_is key other some = elim (cases_Bool (bytes_eq key other)) [
  | inl same ↦ same_text key other same
  | inr apart ↦ absurd (omega (arith, some, not_used key other (λ e. true≢false (sym (text_same key other e) ∙ apart))))
]

-- an index that no element has is past the end
past_end : {X : Type 0} (xs : List X) (index : ℕ) → slice_get xs index ≡ None → length xs ≤ index
past_end [] index none = omega arith
past_end (x ∷ xs) zero none = cc
past_end (x ∷ xs) (suc index) none = omega (arith, past_end xs index none)

-- ---- bases of keys

module _ {V : Type 0} where
  module _ (bases : BTreeMap (Bor (List ℕ)) V) where
    pub no_bases_needed : HasBasesOf [] bases
    no_bases_needed base count some = absurd (omega (arith, some))

    pub bases-append : (xs ys : List (List ℕ)) → HasBasesOf xs bases → HasBasesOf ys bases → HasBasesOf (xs ++ ys) bases
    bases-append xs ys p q base count some = elim (cases_lt 0 (uses_in xs (numbered base (suc count)))) [
      | inl here ↦ p base count here
      | inr none ↦ q base count (omega (arith, some, none, uses_in-append xs ys (numbered base (suc count))))
    ]

    pub bases_of_fewer : (xs ys : List (List ℕ)) → AreFewer xs ys → HasBasesOf ys bases → HasBasesOf xs bases
    bases_of_fewer xs ys fewer p base count some = p base count (omega (arith, some, fewer (numbered base (suc count))))

    pub base_of_plain : (key : List ℕ) → ends_in_number key ≡ false → HasBasesOf (key ∷ []) bases
    base_of_plain key plain base count some = absurd (true≢false (sym (numbered_ends base count) ∙ ap ends_in_number (sym (used_is key (numbered base (suc count)) some)) ∙ plain))

    pub base_of_key : (key added : List ℕ) (count : ℕ) → key ≡ numbered added (suc count) → has_base bases added ≡ true → HasBasesOf (key ∷ []) bases
    base_of_key key added count is has base number some =
        let both = numbered_both added base count number (sym is ∙ used_is key (numbered base (suc number)) some) in
        ap (has_base bases) (sym both.0) ∙ has

  pub bases_kept : (keys : List (List ℕ)) (old new : BTreeMap (Bor (List ℕ)) V) → ((base : List ℕ) → has_base old base ≡ true → has_base new base ≡ true) → HasBasesOf keys old → HasBasesOf keys new
  bases_kept keys old new kept p base count some = kept base (p base count some)

  pub has_no_base : (bases : BTreeMap (Bor (List ℕ)) V) → IsEmpty bases → (base : List ℕ) → has_base bases base ≡ true → ⊥
  has_no_base bases empty base has =
      true≢false (sym has ∙ ap (λ entries. is_some (lookup (is_at (λ (key : Bor (List ℕ)). slice_cmp nat_cmp base key.now)) entries)) empty)

  -- ---- one base more

  some_of_cond : (b : Bool) (v : V) (o : Option V) → is_some (cond b (Some v) o) ≡ cond b true (is_some o)
  some_of_cond true v o = refl
  some_of_cond false v o = refl

  module _ (added : List ℕ) (v : V) (old new : BTreeMap (Bor (List ℕ)) V) (updates : (base : List ℕ) → get_by (λ (k : Bor (List ℕ)). slice_cmp nat_cmp base k.now) new ≡ cond (bytes_eq added base) (Some v) (get_by (λ (k : Bor (List ℕ)). slice_cmp nat_cmp base k.now) old)) where
    has_now : (base : List ℕ) → has_base new base ≡ cond (bytes_eq added base) true (has_base old base)
    has_now base = ap is_some (updates base) ∙ some_of_cond (bytes_eq added base) v (get_by (λ (k : Bor (List ℕ)). slice_cmp nat_cmp base k.now) old)

    pub base_is_added : has_base new added ≡ true
    base_is_added = has_now added ∙ ap (λ b. cond b true (has_base old added)) (text_same added added refl)

    pub base_is_kept : (base : List ℕ) → has_base old base ≡ true → has_base new base ≡ true
    base_is_kept base has = has_now base ∙ ap (cond (bytes_eq added base) true) has ∙ always (bytes_eq added base)
      where
        always : (b : Bool) → cond b true true ≡ true
        always true = refl
        always false = refl

    pub is_added_or_old : (base : List ℕ) → has_base new base ≡ true → (added ≡ base) ⊎ (has_base old base ≡ true)
    is_added_or_old base has = elim (cases_Bool (bytes_eq added base)) [
      | inl same ↦ inl (same_text added base same)
      | inr apart ↦ inr (ap (λ b. cond b true (has_base old base)) (sym apart) ∙ sym (has_now base) ∙ has)
    ]

    -- what holds of each old base and of the added one
    pub holds_of_each : (P : List ℕ → Type 0) → ((base : List ℕ) → has_base old base ≡ true → P base) → P added
        → (base : List ℕ) → has_base new base ≡ true → P base
    holds_of_each P each one base has = elim (is_added_or_old base has) [
      | inl same ↦ subst P same one
      | inr there ↦ each base there
    ]

  -- ---- bases of rows

  module _ (bases : BTreeMap (Bor (List ℕ)) V) (parts : List (Vec Row Global)) (done : List (List (List ℕ))) (are : AreKeysOfParts parts done)
      (each : (index : ℕ) (rows : Vec Row Global) → slice_get parts index ≡ Some rows → HasBasesOf (flat [] rows.items) bases) where
    bases_flat : (bound : ℕ) (rows : List Row) → ((index : ℕ) → index < bound → HasBasesOf (part_keys done index) bases) → AreBelow bound rows → HasBasesOf (flat [] rows) bases → HasBasesOf (flat done rows) bases
    bases_flat bound [] parts_have below p = p
    bases_flat bound (Use key ∷ rows) parts_have below p =
        bases-append bases (key.now ∷ []) (flat done rows)
        (bases_of_fewer bases (key.now ∷ []) (key.now ∷ flat [] rows) (λ k. omega (arith, uses_in-append (key.now ∷ []) (flat [] rows) k)) p)
        (bases_flat bound rows parts_have below (bases_of_fewer bases (flat [] rows) (key.now ∷ flat [] rows) (λ k. omega (arith, uses_in-append (key.now ∷ []) (flat [] rows) k)) p))
    bases_flat bound (Part index ∷ rows) parts_have below p = bases-append bases (part_keys done index) (flat done rows) (parts_have index below.0) (bases_flat bound rows parts_have below.1 p)

    bases_of_part : (bound index : ℕ) → index < bound → HasBasesOf (part_keys done index) bases
    bases_of_part zero index low = absurd (omega arith)
    bases_of_part (suc bound) index low = elim (cases_eq index bound) [
      | inl last ↦ go (bases_of_part bound) (slice_get parts index) refl
      | inr earlier ↦ bases_of_part bound index (omega (arith, low, earlier))
    ]
      where
        go : ((i : ℕ) → i < bound → HasBasesOf (part_keys done i) bases) → (o : Option (Vec Row Global)) → slice_get parts index ≡ o → HasBasesOf (part_keys done index) bases
        go before None none = subst (λ keys. HasBasesOf keys bases) (sym (get_or_past done index [] (omega (arith, past_end parts index none, are.same)))) (no_bases_needed bases)
        go before (Some rows) is = subst (λ keys. HasBasesOf keys bases) (sym (are.each index rows is)) (bases_flat index rows.items (λ i below. before i (omega (arith, below, low))) (are.falls index rows is) (each index rows is))

    -- all base keys that rows stand for have their bases in the map
    pub bases_of_rows : (rows : List Row) → AreBelow (length parts) rows → HasBasesOf (flat [] rows) bases → HasBasesOf (flat done rows) bases
    bases_of_rows rows below p = bases_flat (length parts) rows (bases_of_part (length parts)) below p

  -- ---- all bases are free

  -- the base keys in these entries of the map are free
  abbrev pub AreFree : List (List ℕ) → List (Bor (List ℕ) × V) → Type 0
  AreFree keys es = AllByRecursion (λ (e : Bor (List ℕ) × V). MayBeUsed (uses_in keys) e.0.now (uses_in keys e.0.now)) es

  -- if the base keys in the entries `left` are free too, those in `all` are
  abbrev pub LeavesFree : List (List ℕ) → List (Bor (List ℕ) × V) → List (Bor (List ℕ) × V) → Type 0
  LeavesFree now left all = (keys : List (List ℕ)) → AreFewer keys now → AreFree keys left → AreFree keys all

  pub one_more_free : (old new : List (List ℕ)) (e : Bor (List ℕ) × V) (es left all : List (Bor (List ℕ) × V)) → left ≡ e ∷ es → AreFewer new old → MayBeUsed (uses_in new) e.0.now (uses_in new e.0.now) → LeavesFree old left all → LeavesFree new es all
  one_more_free old new e es left all is fewer free leaves keys less rest =
      leaves keys (λ key. omega (arith, less key, fewer key)) (subst (AreFree keys) (sym is) (free_if_fewer keys new e.0.now less free, rest))

  free_found : (keys : List (List ℕ)) (base : List ℕ) (es : List (Bor (List ℕ) × V)) → AreFree keys es → is_some (lookup (is_at (λ (k : Bor (List ℕ)). slice_cmp nat_cmp base k.now)) es) ≡ true → MayBeUsed (uses_in keys) base (uses_in keys base)
  free_found keys base [] free found = cc
  free_found keys base (e ∷ es) free found = elim (cases_Bool (bytes_eq base e.0.now)) [
    | inl same ↦ subst (λ k. MayBeUsed (uses_in keys) k (uses_in keys k)) (sym (same_text base e.0.now same)) free.0
    | inr apart ↦ free_found keys base es free.1 (ap (λ b. is_some (cond b (Some e.1) (lookup (is_at (λ (k : Bor (List ℕ)). slice_cmp nat_cmp base k.now)) es))) (sym (is_eq-slice_cmp base e.0.now ∙ apart)) ∙ found)
  ]

  pub all_free : (old new : List (List ℕ)) (bases : BTreeMap (Bor (List ℕ)) V) (left : List (Bor (List ℕ) × V)) → left ≡ [] → AreFewer new old → HasBasesOf old bases → LeavesFree new left bases.entries → IsFree (uses_in new)
  all_free old new bases left over fewer have leaves base count some =
      free_found new base bases.entries (leaves new (λ key. omega arith) (subst (AreFree new) (sym over) tt)) (have base count (omega (arith, some, fewer (numbered base (suc count))))) count some
