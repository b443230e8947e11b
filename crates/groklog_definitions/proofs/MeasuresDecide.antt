-- What was measured decides whether an expanded text is too large.
use Rattle.std.proofs.Common.{◌≡◌, ℕ, ◌<◌, ◌⊎◌, inl, inr, Bool, subst, sym}
use Rattle.grok.specs.Tree.{Fault}
use Rattle.grok.specs.Measured.{Measured, Faulty, Sized, TooLong}
use Rattle.groklog_definitions.specs.Compiled.{IsPast, IsPastOrNot}
use Rattle.groklog_definitions.specs.declared.library.Limit.{Limit}

pub sized_long : (limit : Limit) (l g n : ℕ) (found : Measured) → Sized l g n ≡ found → limit.bytes < l → IsPast limit found
sized_long limit l g n found e lt = subst (IsPast limit) e (inl lt)

pub sized_many : (limit : Limit) (l g n : ℕ) (found : Measured) → Sized l g n ≡ found → limit.groups < g → IsPast limit found
sized_many limit l g n found e lt = subst (IsPast limit) e (inr lt)

neither : (P Q : Type 0) → ¬ P → ¬ Q → P ⊎ Q → ⊥
neither P Q p q (inl is) = p is
neither P Q p q (inr is) = q is

pub sized_within : (limit : Limit) (l g n : ℕ) (found : Measured) → Sized l g n ≡ found → ¬ (limit.bytes < l)
    → ¬ (limit.groups < g) → IsPast limit found → ⊥
sized_within limit l g n found e short few past = neither _ _ short few (subst (IsPast limit) (sym e) past)

pub endless : (limit : Limit) (found : Measured) → TooLong ≡ found → IsPast limit found
endless limit found e = subst (IsPast limit) e tt

pub faulty : (limit : Limit) (fault : Fault) (found : Measured) → Faulty fault ≡ found → IsPast limit found → ⊥
faulty limit fault found e past = subst (IsPast limit) (sym e) past

pub carried : (limit : Limit) (one other : Measured) (found : Bool) → IsPastOrNot limit one found → one ≡ other
    → IsPastOrNot limit other found
carried limit one other found is e = subst (λ measured. IsPastOrNot limit measured found) e is

pub ruleset measures_decide = (sized_long, sized_many, sized_within, endless, faulty)
