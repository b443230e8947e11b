-- A numbered key is read back as its base key and the digits of its number.
use Rattle.std.proofs.Common.{◌≡◌, ℕ, suc, ◌<◌, false, List, [], ◌∷◌, ◌++◌, length, get_or, take, drop, Some, None, refl, sym, ◌∙◌, ap, subst, arith, append_assoc}
use Rattle.std.specs.Str.Pattern.{RFindsChar}
use Rattle.std.proofs.lemmas.Bool.{true≢false, ne_eqb}
use Rattle.std.proofs.lemmas.List.{append_cancel_left, append_cancel_right, take-append-drop}
use Rattle.std.proofs.lemmas.Str.Pattern.{NoCharPasses-char, drop_at_char}
use Rattle.grok.specs.Keys.{numbered, ends_in_number}
use Rattle.grok.specs.Numeral.{numeral}
use Rattle.grok.proofs.Keys.NumberedKeysEndInNumber.{not_numbered}
use Rattle.grok.proofs.Keys.KeysAreDistinct.{opens_bracket, in_middle, last_bracket, numeral_plain}

-- ---- the last bracket of a text

-- no byte of the text is an opening bracket
abbrev pub HasNoBracket : List ℕ → Type 0
HasNoBracket xs = (i : ℕ) → i < length xs → get_or xs i 0 ≡ 91 → ⊥

pub no_bracket : (bs : List ℕ) → RFindsChar 91 bs None → HasNoBracket bs
no_bracket bs none i low = NoCharPasses-char 91 bs i none (omega arith) low

-- the text on both sides of its last opening bracket
pub record IsSplit (bs front back : List ℕ) : Type 0 where
  pub cut : bs ≡ front ++ 91 ∷ back
  pub last : HasNoBracket back

pub is_split : (bs front back : List ℕ) (i j : ℕ) → RFindsChar 91 bs (Some (i, j)) → front ≡ take i bs → back ≡ drop j bs → IsSplit bs front back
is_split bs front back i j found before after = record {
  cut = sym (take-append-drop i bs) ∙ ap (λ xs. take i bs ++ xs) (drop_at_char 91 bs i j found.1 (omega arith)) ∙ sym (ap (λ xs. xs ++ 91 ∷ drop j bs) before) ∙ sym (ap (λ xs. front ++ 91 ∷ xs) after);
  last = subst HasNoBracket (sym after) (no_bracket (drop j bs) found.0);
}

-- ---- a numbered key

closed : (base : List ℕ) (count : ℕ) → numbered base (suc count) ≡ (base ++ 91 ∷ numeral (suc count)) ++ 93 ∷ []
closed base count = simp append_assoc

regroup : (base : List ℕ) (count : ℕ) → numbered base (suc count) ≡ base ++ 91 ∷ (numeral (suc count) ++ 93 ∷ [])
regroup base count = simp append_assoc

plain : (xs : List ℕ) → HasNoBracket xs → opens_bracket (xs ++ 93 ∷ []) ≡ false
unfolding opens_bracket
plain [] none = refl
plain (x ∷ xs) none = rw (ne_eqb x 91 (none 0 (omega arith))) (plain xs (λ i low. none (suc i) (omega arith)))

-- it has its last bracket
pub not_closed : (key : List ℕ) → ((inside : List ℕ) → key ≡ inside ++ 93 ∷ [] → ⊥) → ends_in_number key ≡ false
not_closed key unclosed = not_numbered key (λ base count is. unclosed (base ++ 91 ∷ numeral (suc count)) (is ∙ closed base count))

module _ (key inside : List ℕ) (ends : key ≡ inside ++ 93 ∷ []) where
  whole : (base : List ℕ) (count : ℕ) → key ≡ numbered base (suc count) → inside ++ 93 ∷ [] ≡ base ++ 91 ∷ (numeral (suc count) ++ 93 ∷ [])
  whole base count is = sym ends ∙ is ∙ regroup base count

  -- and its first one
  pub not_opened : HasNoBracket inside → ends_in_number key ≡ false
  not_opened none = not_numbered key (λ base count is.
      true≢false (sym (in_middle base (numeral (suc count) ++ 93 ∷ [])) ∙ ap opens_bracket (sym (whole base count is)) ∙ plain inside none))

  -- and its number between them
  module _ (front digits : List ℕ) (split : IsSplit inside front digits) where
    pub no_number : ((count : ℕ) → digits ≡ numeral (suc count) → ⊥) → ends_in_number key ≡ false
    no_number none = not_numbered key (λ base count is.
        let both = last_bracket front base (digits ++ 93 ∷ []) (numeral (suc count) ++ 93 ∷ []) (plain digits split.last) (numeral_plain count)
        (sym (append_assoc front (91 ∷ digits) (93 ∷ [])) ∙ ap (λ xs. xs ++ 93 ∷ []) (sym split.cut) ∙ whole base count is) in
        none count (append_cancel_right digits (numeral (suc count)) (93 ∷ []) both.1))

    pub is_numbered : (count : ℕ) → digits ≡ numeral (suc count) → key ≡ numbered front (suc count)
    is_numbered count is = ends ∙ ap (λ xs. xs ++ 93 ∷ []) (split.cut ∙ ap (λ ds. front ++ 91 ∷ ds) is) ∙ sym (closed front count)

-- ---- a base key and an ending

numbered_ending : (base : List ℕ) (count : ℕ) → numbered base (suc count) ≡ base ++ numbered [] (suc count)
numbered_ending base count = regroup base count ∙ ap (λ xs. base ++ xs) (sym (regroup [] count))

-- a key that begins with the base key is numbered if its ending is
module _ (base key ending : List ℕ) (is : key ≡ base ++ ending) where
  pub ending_is : (count : ℕ) → key ≡ numbered base (suc count) → ending ≡ numbered [] (suc count)
  ending_is count e = append_cancel_left base ending (numbered [] (suc count)) (sym is ∙ e ∙ numbered_ending base count)

  pub key_is : (count : ℕ) → ending ≡ numbered [] (suc count) → key ≡ numbered base (suc count)
  key_is count e = is ∙ ap (λ xs. base ++ xs) e ∙ sym (numbered_ending base count)
