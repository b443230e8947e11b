use Rattle.std.proofs.Common.{◌≡◌, ℕ, suc, ◌-◌, ◌<◌, ◌^◌, min, List, [], length, Option, Some, None, MatchOption, sym, ◌∙◌, ap, subst, inl, inr, arith, eqb-true}
use Rattle.std.specs.Prelude.{◌==◌, unwrap_or}
use Rattle.std.proofs.lemmas.Bool.{true≢false, cases_lt}
use Rattle.std.proofs.lemmas.List.{nil_from_length}
use Rattle.grok.specs.Keys.{numbered, ends_in_number}
use Rattle.grok.specs.Numeral.{numeral}
use Rattle.grok.proofs.KeyTables.NamesMeanKeys.{stripped, numeral_same}
use Rattle.grok.proofs.Keys.NumberedKeysEndInNumber.{numbered_ends}
use Rattle.grok.proofs.Keys.KeysAreDistinct.{numbered_both}
use Rattle.grok.proofs.Keys.NumberedKeysAreReadBack.{ending_is, key_is}
use Rattle.grok.proofs.expand.uses.number_of_base.Goals as goal

abbrev Answers : List ℕ → List ℕ → Option ℕ → Type 0
Answers base key r = MatchOption r ((count : ℕ) → key ≡ numbered base (suc count) → ⊥) (λ number. (count : ℕ) × (key ≡ numbered base (suc count)) × (number ≡ min (suc count) (2 ^ 64 - 1)))

-- the number that is returned, if the digits are a numeral
bounded : (digits : List ℕ) (count number : ℕ) (r : Option ℕ) → digits ≡ numeral (suc count) → number < 2 ^ 64 → number ≡ unwrap_or r (2 ^ 64 - 1)
    → MatchOption r ((n : ℕ) → n < 2 ^ 64 → digits ≡ numeral n → ⊥) (λ n. digits ≡ numeral n) → number ≡ min (suc count) (2 ^ 64 - 1)
bounded digits count number None is fits value h = elim (cases_lt (suc count) (2 ^ 64)) [
  | inl low ↦ absurd (h (suc count) low is)
  | inr high ↦ omega (arith, high, value)
]
bounded digits count number (Some n) is fits value h =
    let same : n ≡ suc count = numeral_same n (suc count) (sym h ∙ is) in
    omega (arith, same, value, fits)

pub returns-in_err-inner_base : goal.returns-in_err-inner_base
returns-in_err-inner_base c =
    let base = c.args.base.now in
    let key = c.args.key.now in
    let ending = c.in_ok-ending.ending.now in
    let begins = stripped base key ending c.in_ok-ending.ensures.cases in
    subst (Answers base key) (sym c.from_residual-in_err-inner_base.ensures)
    (λ count is. true≢false (sym (numbered_ends [] count) ∙ ap ends_in_number (sym (ending_is base key ending begins count is)) ∙ c.in_err-inner_base.ensures))

pub returns-then-not-is_empty : goal.returns-then-not-is_empty
returns-then-not-is_empty c count is =
    let base = c.args.base.now in
    let key = c.args.key.now in
    let ending = c.in_ok-ending.ending.now in
    let begins = stripped base key ending c.in_ok-ending.ensures.cases in
    let inner = c.in_ok-inner_base.ensures in
    let none : c.in_ok-inner_base.inner_base.now ≡ [] = (numbered_both c.in_ok-inner_base.inner_base.now [] inner.0 count (sym inner.2 ∙ ending_is base key ending begins count is)).0 in
    true≢false (sym (c.is_empty.ensures ∙ ap (λ (xs : List ℕ). length xs == 0) none) ∙ c.if-not-is_empty.true)

pub returns : goal.returns
returns c =
    let base = c.args.base.now in
    let key = c.args.key.now in
    let ending = c.in_ok-ending.ending.now in
    let begins = stripped base key ending c.in_ok-ending.ensures.cases in
    let (count, digits_are, is) = c.in_ok-inner_base.ensures in
    let none : c.in_ok-inner_base.inner_base.now ≡ [] = nil_from_length c.in_ok-inner_base.inner_base.now (eqb-true (length c.in_ok-inner_base.inner_base.now) 0 (sym c.is_empty.ensures ∙ c.if-not-is_empty.false)) in
    let numbered_is : ending ≡ numbered [] (suc count) = is ∙ ap (λ xs. numbered xs (suc count)) none in (
      count,
      key_is base key ending begins count numbered_is,
      bounded c.in_ok-inner_base.digits.now count c.unwrap_or.result c.number_of_numeral.result digits_are (omega arith) c.unwrap_or.ensures c.number_of_numeral.ensures,
    )
