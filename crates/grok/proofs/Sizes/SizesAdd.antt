-- Sizes of texts that follow one another add up, and so do those in brackets.
use Rattle.std.proofs.Common.{◌≡◌, Bool, Result, Ok, Err, refl, ap, arith}
use Rattle.grok.specs.Tree.{Fault, Label}
use Rattle.grok.specs.steps.Sizes.{Size, no_size, plus, both, bracketed, wrapped}

pub same_size : (a b : Size) → a.bytes ≡ b.bytes → a.groups ≡ b.groups → a.height ≡ b.height → a ≡ b
same_size a b p q r = λ i. record { bytes = p i; groups = q i; height = r i }

pub plus_none : (a : Size) → plus no_size a ≡ a
plus_none a = same_size _ _ (omega arith) (omega arith) (omega arith)

pub plus_assoc : (a b c : Size) → plus (plus a b) c ≡ plus a (plus b c)
plus_assoc a b c = same_size _ _ (omega arith) (omega arith) (omega arith)

pub both_none : (r : Result Size Fault) → both (Ok no_size) r ≡ r
both_none (Ok a) = ap Ok (plus_none a)
both_none (Err f) = refl

pub both_assoc : (r s t : Result Size Fault) → both (both r s) t ≡ both r (both s t)
both_assoc (Err f) s t = refl
both_assoc (Ok a) (Err f) t = refl
both_assoc (Ok a) (Ok b) (Err f) = refl
both_assoc (Ok a) (Ok b) (Ok c) = ap Ok (plus_assoc a b c)

-- two sizes one after the other
pub both_ok : (r s : Result Size Fault) (z : Size) → both r s ≡ Ok z → (a b : Size) × (r ≡ Ok a) × (s ≡ Ok b) × (z ≡ plus a b)
both_ok (Err f) s z e = cc
both_ok (Ok a) (Err f) z e = cc
both_ok (Ok a) (Ok b) z e = (a, b, refl, refl, cc)

pub wrapped_ok : (alias_only : Bool) (label : Label) (r : Result Size Fault) (z : Size) → wrapped alias_only label r ≡ Ok z → (a : Size) × (r ≡ Ok a) × (z ≡ bracketed alias_only label a)
wrapped_ok alias_only label (Err f) z e = cc
wrapped_ok alias_only label (Ok a) z e = (a, refl, cc)
