-- Two lists that a relation holds of, place by place, while the items of the first one come one after another.
use Rattle.std.proofs.Common.{◌≡◌, List, [], ◌∷◌, ◌++◌, length, ap, sym, subst, ◌∙◌, arith}
use Rattle.std.proofs.Math.Seq.{get_or-append_seam}
use Rattle.std.proofs.lemmas.Grind.{common_steps}
use Rattle.std.proofs.lemmas.List.{append-nil}
use Rattle.std.specs.List.{AllZip, Any}

-- Each list gets one more item, and the relation holds of these.
pub all_zip_push : {A B : Type 0} → (R : A → B → Type 0) → (xs : List A) → (ys : List B) → (x : A) → (y : B)
    → AllZip R xs ys → R x y → AllZip R (xs ++ x ∷ []) (ys ++ y ∷ [])
all_zip_push R [] [] x y all one = (one, tt)
all_zip_push R (a ∷ xs) (b ∷ ys) x y all one = (all.0, all_zip_push R xs ys x y all.1 one)
all_zip_push R [] (b ∷ ys) x y all one = elim all [ ]
all_zip_push R (a ∷ xs) [] x y all one = elim all [ ]

-- One more item has come.
pub one_more_came : {A : Type 0} → (came rest after all : List A) → (x : A) → rest ≡ x ∷ after → came ++ rest ≡ all
    → (came ++ x ∷ []) ++ after ≡ all
one_more_came came rest after all x is left = grind (arith, common_steps)

-- The item that comes is one of all.
pub what_comes_is_one : {A : Type 0} → (P : A → Type 0) → (came rest after all : List A) → (x : A) → rest ≡ x ∷ after
    → came ++ rest ≡ all → P x → Any P all
what_comes_is_one P came rest after all x is left holds =
    subst (Any P) (ap (λ r. came ++ r) (sym is) ∙ left)
    (length came, x, grind (arith, common_steps), get_or-append_seam came x after x, holds)

-- No item is left.
pub all_came : {A : Type 0} → (came rest all : List A) → came ++ rest ≡ all → length rest ≡ 0 → came ≡ all
all_came came [] all left none = sym (append-nil came) ∙ left
all_came came (x ∷ rest) all left none = grind (arith, none)
