-- A writer that takes two texts one after the other has taken the first followed by the second.
use Rattle.std.proofs.Common.{ℕ, List, [], ◌++◌, Option, Some, None, sym, ap, ◌∙◌, append_assoc, append-nil}
use Rattle.std.specs.Io.KnownBytes.{Appends, Keeps}

pub appends_both : (a b c : Option (List ℕ)) (x y : List ℕ) → Appends a b x → Appends b c y → Appends a c (x ++ y)
appends_both None b c x y h k = tt
appends_both (Some xs) None c x y h k = absurd h
appends_both (Some xs) (Some ys) None x y h k = absurd k
appends_both (Some xs) (Some ys) (Some zs) x y h k = k ∙ ap (λ v. v ++ y) h ∙ append_assoc xs x y

pub appends_still : (a b c : Option (List ℕ)) (x : List ℕ) → Appends a b x → Keeps b c → Appends a c x
appends_still None b c x h k = tt
appends_still (Some xs) None c x h k = absurd h
appends_still (Some xs) (Some ys) None x h k = absurd k
appends_still (Some xs) (Some ys) (Some zs) x h k = k ∙ h

pub appends_same : (a : Option (List ℕ)) → Appends a a []
appends_same None = tt
appends_same (Some xs) = sym (append-nil xs)
