-- If one more key is assigned, the count of its base key (the key before its number is added) rises by one, and the
-- extract of the placeholder becomes that of the key if there is one.
use Rattle.std.proofs.Common.{◌≡◌, ℕ, zero, suc, ◌+◌, ◌<◌, ◌^◌, Bool, true, false, cond, List, [], ◌∷◌, ◌++◌, length, Option, Some, refl, sym, ◌∙◌, ap, inl, inr, arith, append_assoc, ◌&&◌}
use Rattle.std.specs.Prelude.{codes, decimal, ◌==◌, not, unwrap_or}
use Rattle.std.specs.Option.{option_map}
use Rattle.std.specs.Str.{bytes_eq}
use Rattle.std.proofs.lemmas.Bool.{cases_Bool, ne_eqb}
use Rattle.grok.specs.Tree.{is_absent}
use Rattle.grok.specs.Keys.{numbered}
use Rattle.grok.specs.Numeral.{numeral}
use Rattle.grok.proofs.Texts.NumeralsAreDecimal.{numeral_is_decimal}
use Rattle.grok.proofs.Texts.EqualBytesAreSameText.{same_text}

-- what is written after a base key that was used before
pub numbered_is : (key : List ℕ) (count : ℕ) → 0 < count → count < 2 ^ 64 → numbered key count ≡ key ++ (91 ∷ (decimal count ++ (93 ∷ [])))
numbered_is key zero positive low = absurd (omega arith)
numbered_is key (suc count) positive low = append_assoc (key ++ codes "[") (numeral (suc count)) (93 ∷ []) ∙ append_assoc key (91 ∷ []) (numeral (suc count) ++ (93 ∷ [])) ∙ ap (λ ds. key ++ (91 ∷ (ds ++ (93 ∷ [])))) (numeral_is_decimal (suc count) low)

-- a count that rose by one
pub counted_more : (old new : List ℕ → Option ℕ) (base : List ℕ) (count next : ℕ) → ((key : List ℕ) → new key ≡ cond (bytes_eq base key) (Some next) (old key))
    → count ≡ unwrap_or (old base) 0 → next ≡ count + 1 → (key : List ℕ) → unwrap_or (new key) 0 ≡ cond {A = ℕ} (bytes_eq base key) 1 0 + unwrap_or (old key) 0
counted_more old new base count next h was more key =
    elim (cases_Bool (bytes_eq base key)) [
      | inl same ↦
          let now : new key ≡ Some next = h key ∙ ap (λ b. cond b (Some next) (old key)) same in
          let here : unwrap_or (old key) 0 ≡ count = ap (λ k. unwrap_or (old k) 0) (sym (same_text base key same)) ∙ sym was in
          let one : cond {A = ℕ} (bytes_eq base key) 1 0 ≡ 1 = ap (λ (b : Bool). cond {A = ℕ} b 1 0) same in
          let value : unwrap_or (new key) 0 ≡ next = ap (λ o. unwrap_or o 0) now in
          omega arith
      | inr other ↦
          let now : new key ≡ old key = h key ∙ ap (λ b. cond b (Some next) (old key)) other in
          let none : cond {A = ℕ} (bytes_eq base key) 1 0 ≡ 0 = ap (λ (b : Bool). cond {A = ℕ} b 1 0) other in
          let value : unwrap_or (new key) 0 ≡ unwrap_or (old key) 0 = ap (λ o. unwrap_or o 0) now in
          omega arith
    ]

-- how the extracts change when one is kept
pub kept_more : (e : List ℕ) → is_absent e ≡ false → (same : Bool) (o : Option (List ℕ)) → cond same (Some e) o ≡ cond (same && not (is_absent e)) (Some e) o
kept_more e some true o = rw some refl
kept_more e some false o = refl

pub kept_value : (same same' : Bool) (e e' : List ℕ) (old new : Option (List ℕ)) → new ≡ cond same (Some e') old → same ≡ same' → e' ≡ e → is_absent e ≡ false → new ≡ cond (same' && not (is_absent e)) (Some e) old
kept_value same same' e e' old new is alike text some = is ∙ ap (λ b. cond b (Some e') old) alike ∙ ap (λ t. cond same' (Some t) old) text ∙ kept_more e some same' old

pub mapped_cond : {X : Type 0} (f : X → List ℕ) (b : Bool) (x : X) (o : Option X) → option_map f (cond b (Some x) o) ≡ cond b (Some (f x)) (option_map f o)
mapped_cond f true x o = refl
mapped_cond f false x o = refl

pub absent_is : (e : List ℕ) → is_absent e ≡ (length e == 0)
absent_is [] = refl
absent_is (c ∷ cs) = sym (ne_eqb (length (c ∷ cs)) 0 (λ h. absurd (omega arith)))
