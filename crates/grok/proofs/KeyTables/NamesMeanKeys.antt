-- The group name `_n_k` means the key with number k if there is one, and any other group name means itself.
use Rattle.std.proofs.Common.{MatchOption, ◌≡◌, ℕ, zero, suc, ◌+◌, ◌-◌, ◌<◌, ◌^◌, Bool, true, false, cond, List, [], ◌∷◌, ◌++◌, map, drop, length, get_or, Option, Some, None, refl, sym, ◌∙◌, ap, arith, add-zero, add-one}
use Rattle.std.specs.Option.{option_map}
use Rattle.std.specs.Str.{bytes_eq}
use Rattle.std.specs.String.{string_bytes}
use Rattle.std.specs.Global.{Global}
use Rattle.std.specs.declared.string.String.{String}
use Rattle.std.proofs.Math.Seq.{drop-cons}
use Rattle.std.specs.Str.Pattern.{StripsPrefix, FindsTextPrefix}
use Rattle.std.specs.Int.Digits.{digits_of, number_from_digits}
use Rattle.std.proofs.lemmas.Int.Digits.{number_digits_of}
use Rattle.std.proofs.lemmas.Bool.{false_from_ne_true}
use Rattle.std.proofs.lemmas.List.{append_cancel_left}
use Rattle.grok.specs.Numeral.{numeral}
use Rattle.grok.specs.GeneratedNames.{name_start, generated}
use Rattle.grok.specs.KeyTable.{meant_from, meant_key, groups_from, last_or}
use Rattle.grok.specs.Captures.{name_texts}
use Rattle.grok.proofs.Texts.EqualBytesAreSameText.{same_text, text_same}

-- ---- two numbers with the same numeral are equal
back : (ds : List ℕ) → map (λ c. c - 48) (map (λ digit. 48 + digit) ds) ≡ ds
back [] = refl
back (d ∷ ds) = let first : (48 + d) - 48 ≡ d = omega arith in let rest = back ds in cc

value : (n : ℕ) → number_from_digits 10 (map (λ c. c - 48) (numeral n)) ≡ n
value zero = refl
value (suc n) = ap (number_from_digits 10) (back (digits_of 10 (suc n))) ∙ number_digits_of 10 (suc n) (omega arith)

pub numeral_same : (a b : ℕ) → numeral a ≡ numeral b → a ≡ b
numeral_same a b e = sym (value a) ∙ ap (λ ds. number_from_digits 10 (map (λ c. c - 48) ds)) e ∙ value b

pub generated_same : (a b : ℕ) → generated a ≡ generated b → a ≡ b
generated_same a b e = numeral_same a b (append_cancel_left name_start (numeral a) (numeral b) e)

-- ---- the key that a name means
pub meant_given : (keys : List (List ℕ)) (from number : ℕ) → number < length keys → meant_from from keys (generated (from + number)) ≡ get_or keys number []
meant_given [] from number h = absurd (omega arith)
meant_given (key ∷ keys) from zero h =
    ap (λ b. cond b key (meant_from (suc from) keys (generated (from + 0)))) (text_same (generated (from + 0)) (generated from) (ap generated (add-zero from)))
meant_given (key ∷ keys) from (suc number) h =
    let other : bytes_eq (generated (from + suc number)) (generated from) ≡ false = false_from_ne_true (bytes_eq (generated (from + suc number)) (generated from)) (λ same.
    let e : from + suc number ≡ from = generated_same (from + suc number) from (same_text (generated (from + suc number)) (generated from) same) in omega arith) in
    let moved : from + suc number ≡ suc from + number = omega arith in
    ap (λ b. cond b key (meant_from (suc from) keys (generated (from + suc number)))) other ∙ ap (λ n. meant_from (suc from) keys (generated n)) moved ∙ meant_given keys (suc from) number (omega arith)

pub meant_itself : (keys : List (List ℕ)) (from : ℕ) (name : List ℕ) → ((number : ℕ) → number < length keys → name ≡ generated (from + number) → ⊥) → meant_from from keys name ≡ name
meant_itself [] from name h = refl
meant_itself (key ∷ keys) from name h =
    let other : bytes_eq name (generated from) ≡ false = false_from_ne_true (bytes_eq name (generated from)) (λ same. h 0 (omega arith) (same_text name (generated from) same ∙ ap generated (sym (add-zero from)))) in
    ap (λ b. cond b key (meant_from (suc from) keys name)) other
    ∙ meant_itself keys (suc from) name (λ number low is. let moved : suc from + number ≡ from + suc number = omega arith in h (suc number) (omega arith) (is ∙ ap generated moved))

-- ---- reading a number back
pub stripped : (p s x : List ℕ) → StripsPrefix (FindsTextPrefix p) s x → s ≡ p ++ x
stripped p s x (n, found, rest, len) = found.1 ∙ ap (λ xs. p ++ xs) (sym rest)

-- the number of a generated name is the one whose numeral follows the start of the name
pub read_back : (name digits : List ℕ) (o : Option ℕ) → name ≡ name_start ++ digits → MatchOption o ((number : ℕ) → number < 2 ^ 64 → digits ≡ numeral number → ⊥) (λ number. digits ≡ numeral number)
    → MatchOption o ((number : ℕ) → number < 2 ^ 64 → name ≡ generated number → ⊥) (λ number. name ≡ generated number)
read_back name digits None is other = λ number low e. other number low (append_cancel_left name_start digits (numeral number) (sym is ∙ e))
read_back name digits (Some number) is same = is ∙ ap (λ ds. name_start ++ ds) same

pub get_mapped : {X Y : Type 0} (f : X → Y) (xs : List X) (i : ℕ) (d : X) (e : Y) → i < length xs → get_or (map f xs) i e ≡ f (get_or xs i d)
get_mapped f [] i d e h = absurd (omega arith)
get_mapped f (x ∷ xs) zero d e h = refl
get_mapped f (x ∷ xs) (suc i) d e h = get_mapped f xs i d e (omega arith)

-- ---- one more name
pub name_cut : (names : List (Option (String Global))) (group : ℕ) (name : Option (String Global)) → group < length names → name ≡ get_or names group name
    → name_texts (drop group names) ≡ option_map string_bytes name ∷ name_texts (drop (group + 1) names)
name_cut names group name within is =
    ap name_texts (drop-cons names group name within) ∙ ap (λ n. option_map string_bytes n ∷ name_texts (drop (suc group) names)) (sym is) ∙ ap (λ i. option_map string_bytes name ∷ name_texts (drop i names)) (sym (add-one group))

module _ (keys : List (List ℕ)) (key : List ℕ) (names : List (Option (String Global))) (group : ℕ) (within : group < length names) (old whole : Option ℕ)
    (so_far : last_or old (groups_from keys key group (name_texts (drop group names))) ≡ whole) where
  abbrev rest : ℕ → List ℕ
  rest n = groups_from keys key n (name_texts (drop (group + 1) names))

  pub no_name : (name : Option (String Global)) → name ≡ get_or names group name → name ≡ None → last_or old (rest (group + 1)) ≡ whole
  no_name name is none =
      ap (λ n. last_or old (rest n)) (add-one group)
      ∙ sym (ap (λ ns. last_or old (groups_from keys key group ns)) (name_cut names group name within is ∙ ap (λ o. option_map string_bytes o ∷ name_texts (drop (group + 1) names)) none)) ∙ so_far

  pub one_name : (name : Option (String Global)) (text : String Global) (new : Option ℕ) → name ≡ get_or names group name → name ≡ Some text
      → new ≡ cond (bytes_eq (meant_key keys (string_bytes text)) key) (Some group) old → last_or new (rest (group + 1)) ≡ whole
  one_name name text new is some now =
      let same : (b : Bool) → last_or (cond b (Some group) old) (rest (suc group)) ≡ last_or old (cond b (group ∷ rest (suc group)) (rest (suc group))) = λ b. elim b as (λ v. last_or (cond v (Some group) old) (rest (suc group)) ≡ last_or old (cond v (group ∷ rest (suc group)) (rest (suc group)))) [ true ↦ refl | false ↦ refl ] in
      ap (λ n. last_or new (rest n)) (add-one group)
      ∙ ap (λ o. last_or o (rest (suc group))) now
      ∙ same (bytes_eq (meant_key keys (string_bytes text)) key)
      ∙ sym (ap (λ ns. last_or old (groups_from keys key group ns)) (name_cut names group name within is ∙ ap (λ o. option_map string_bytes o ∷ name_texts (drop (group + 1) names)) some)) ∙ so_far
