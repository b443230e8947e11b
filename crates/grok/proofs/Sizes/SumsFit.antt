-- A sum is `None` exactly if it doesn't fit a `usize`, and a text whose length is `None` is measured as too long.
use Rattle.std.proofs.Common.{◌≡◌, ℕ, ◌^◌, ◌<◌, ◌≤◌, Bool, true, false, cond, Some, None, refl, sym, ◌∙◌, ap, arith}
use Rattle.std.proofs.lemmas.Bool.{ltb-true, ltb-false, lt-ltb, le-ltb}
use Rattle.std.specs.Prelude.{nat_lt}
use Rattle.grok.specs.steps.Sizes.{Size, length_of}
use Rattle.grok.specs.Measured.{Sized, TooLong, size_within}
use Rattle.grok.specs.steps.MeasureCache.{fit, shown}
use Rattle.grok.specs.declared.measure.partial_size.PartialSize.{PartialSize}
use Rattle.grok.proofs.Sizes.DigitsAddUp.{digits_least}

pub fit_some : (n m : ℕ) → Some m ≡ fit n → (m ≡ n) × (n < 2 ^ 64)
fit_some n m e = go (nat_lt n (2 ^ 64)) refl e
  where
    go : (b : Bool) → nat_lt n (2 ^ 64) ≡ b → Some m ≡ cond b (Some n) None → (m ≡ n) × (n < 2 ^ 64)
    go true is e = (cc, ltb-true n (2 ^ 64) is)
    go false is e = cc

pub fit_none : (n : ℕ) → None ≡ fit n → 2 ^ 64 ≤ n
fit_none n e = go (nat_lt n (2 ^ 64)) refl e
  where
    go : (b : Bool) → nat_lt n (2 ^ 64) ≡ b → None ≡ cond b (Some n) None → 2 ^ 64 ≤ n
    go true is e = cc
    go false is e = ltb-false n (2 ^ 64) is

pub fit_past : (n : ℕ) → 2 ^ 64 ≤ n → None ≡ fit n
fit_past n past = ap (λ b. cond b (Some n) None) (sym (le-ltb n (2 ^ 64) past))

pub fit_is : (n : ℕ) → n < 2 ^ 64 → Some n ≡ fit n
fit_is n low = ap (λ b. cond b (Some n) None) (sym (lt-ltb n (2 ^ 64) low))

-- if the number of groups doesn't fit, the length doesn't either
pub long_groups : (sum : PartialSize) (z : Size) → sum ≡ shown z → sum.groups ≡ None → None ≡ fit (length_of z)
long_groups sum z e none = fit_past (length_of z) (omega (arith, fit_none z.groups (sym none ∙ ap (λ s. s.groups) e), digits_least 0 z.groups))

pub sized : (sum : PartialSize) (z : Size) (length groups : ℕ) → sum ≡ shown z → Some length ≡ fit (length_of z) → sum.groups ≡ Some groups
    → Sized length groups sum.height ≡ size_within (length_of z) z.groups z.height
sized sum z length groups e long some =
    let (l, low) = fit_some (length_of z) length long in
    let (g, low') = fit_some z.groups groups (sym some ∙ ap (λ s. s.groups) e) in
    let h : sum.height ≡ z.height = ap (λ s. s.height) e in
    rw (l, g, h) (ap (λ b. cond b (Sized (length_of z) z.groups z.height) TooLong) (sym (lt-ltb (length_of z) (2 ^ 64) low)))

pub unsized : (z : Size) → None ≡ fit (length_of z) → TooLong ≡ size_within (length_of z) z.groups z.height
unsized z none = ap (λ b. cond b (Sized (length_of z) z.groups z.height) TooLong) (sym (le-ltb (length_of z) (2 ^ 64) (fit_none (length_of z) none)))

pub ruleset fits = (long_groups, sized, unsized)
