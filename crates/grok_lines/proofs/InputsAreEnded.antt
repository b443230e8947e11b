-- What was written for the lines of an input, and then for its end, is what was to be written for the whole input.
use Rattle.std.proofs.Common.{◌≡◌, ℕ, List, [], ◌++◌, ◌⊎◌, inl, inr, Option, Some, None, Result, Ok, Err, OnOk, IfErr, IsErrOf, refl, sym, ap, ◌∙◌, append_assoc, append-nil}
use Rattle.std.specs.Io.KnownBytes.{Appends, Keeps, append_known}
use Rattle.grok_lines.specs.Lines.{lines_of, ended_lines_of, unended_of, last_line}
use Rattle.grok_lines.specs.Traffic.{Traffic, traffic}
use Rattle.grok_lines.specs.Errors.{IsWriteError, UnlessWriteFailed}
use Rattle.grok_lines.proofs.LinesOfTwoParts.{lines-split}
use Rattle.grok_lines.specs.Streams.{GoesOn, HasAnsweredInput, HasAnsweredInputAnd, HasAnsweredEnded, HasAnsweredEndedAnd, HasAnsweredSome, HasBegun}
use Rattle.grok_lines.specs.declared.error.LinesError.{LinesError}
use Rattle.grok_lines.specs.declared.error.LinesError.TheVariants.{Memory, Read, Write}

-- Some bytes were written, others were held, and then those and more went out.
appends_held : (a b c : Option (List ℕ)) (held x more : List ℕ) → Appends (append_known a []) (append_known b held) x → Appends b c (held ++ more)
    → Appends a c (x ++ more)
appends_held None b c held x more h k = tt
appends_held (Some xs) None c held x more h k = absurd h
appends_held (Some xs) (Some ys) None held x more h k = absurd k
appends_held (Some xs) (Some ys) (Some zs) held x more h k =
    k ∙ sym (append_assoc ys held more) ∙ ap (λ v. v ++ more) h ∙ ap (λ v. (v ++ x) ++ more) (append-nil xs) ∙ append_assoc xs x more

whole : {H : Type 0} (E F : H → List (List ℕ) → List ℕ) (N : H → List (List ℕ) → H → Type 0) (f g : H) (lines : List (List ℕ)) → GoesOn E F N f lines g
    → E f lines ≡ F f lines ++ E g []
whole E F N f g lines on = ap (E f) (sym (append-nil lines)) ∙ on.all []

last : {H : Type 0} (E F : H → List (List ℕ) → List ℕ) (N : H → List (List ℕ) → H → Type 0) (f g k : H) (lines : List (List ℕ)) → GoesOn E F N f lines g
    → N g [] k → N f lines k
last E F N f g k lines on next = let is : N f (lines ++ []) k = on.next [] k next in rw append-nil at is

pub input_ended : {H : Type 0} (E F : H → List (List ℕ) → List ℕ) (N : H → List (List ℕ) → H → Type 0) (f g k : H) (r s a b c : Option (List ℕ)) (held sent : List ℕ)
    → HasAnsweredInputAnd (F f) (λ lines. GoesOn E F N f lines g) (traffic r s (append_known a []) (append_known b held))
    → sent ≡ held ++ E g [] → N g [] k → Appends b c sent
    → HasAnsweredInputAnd (E f) (λ lines. N f lines k) (traffic r s a c)
input_ended E F N f g k r s a b c held sent (bytes, read, end, written, on) is next out = (
  bytes,
  read,
  end,
  rw (whole E F N f g (lines_of bytes) on) (appends_held a b c held (F f (lines_of bytes)) (E g []) written (rw is at out)),
  last E F N f g k (lines_of bytes) on next,
)

pub lines_ended : {H : Type 0} (E F : H → List (List ℕ) → List ℕ) (N : H → List (List ℕ) → H → Type 0) (f g k : H) (r s a b c : Option (List ℕ)) (held sent : List ℕ)
    → HasAnsweredEndedAnd (F f) (λ lines. GoesOn E F N f lines g) (traffic r s (append_known a []) (append_known b held))
    → sent ≡ held ++ E g [] → N g [] k → Appends b c sent
    → HasAnsweredEndedAnd (E f) (λ lines. N f lines k) (traffic r s a c)
lines_ended E F N f g k r s a b c held sent (bytes, read, written, on) is next out = (
  bytes,
  read,
  rw (whole E F N f g (ended_lines_of bytes) on) (appends_held a b c held (F f (ended_lines_of bytes)) (E g []) written (rw is at out)),
  last E F N f g k (ended_lines_of bytes) on next,
)

-- Nothing was written for the end. What was held went out.
sent_out : (F : List (List ℕ) → List ℕ) (a b c : Option (List ℕ)) (held sent : List ℕ) (lines : List (List ℕ))
    → Appends (append_known a []) (append_known b held) (F lines) → sent ≡ held → Appends b c sent → Appends a c (F lines)
sent_out F a b c held sent lines written is out =
    rw append-nil at (appends_held a b c held (F lines) [] written (rw (is, ← append-nil held) at out))

pub some_of_all : (F : List (List ℕ) → List ℕ) (Holds : List (List ℕ) → Type 0) (r s a b c : Option (List ℕ)) (held sent : List ℕ)
    → HasAnsweredInputAnd F Holds (traffic r s (append_known a []) (append_known b held)) → sent ≡ held → Appends b c sent
    → HasAnsweredSome F (traffic r s a c)
some_of_all F Holds r s a b c held sent (bytes, read, end, written, holds) is out =
    (bytes, read, (lines_of bytes, [], sym (append-nil (lines_of bytes)), sent_out F a b c held sent (lines_of bytes) written is out))

pub some_of_ended : (F : List (List ℕ) → List ℕ) (Holds : List (List ℕ) → Type 0) (r s a b c : Option (List ℕ)) (held sent : List ℕ)
    → HasAnsweredEndedAnd F Holds (traffic r s (append_known a []) (append_known b held)) → sent ≡ held → Appends b c sent
    → HasAnsweredSome F (traffic r s a c)
some_of_ended F Holds r s a b c held sent (bytes, read, written, holds) is out =
    (bytes, read, (ended_lines_of bytes, last_line (unended_of bytes), lines-split bytes, sent_out F a b c held sent (ended_lines_of bytes) written is out))

pub some_of_some : (F : List (List ℕ) → List ℕ) (r s a b c : Option (List ℕ)) (held sent : List ℕ)
    → HasAnsweredSome F (traffic r s (append_known a []) (append_known b held)) → sent ≡ held → Appends b c sent
    → HasAnsweredSome F (traffic r s a c)
some_of_some F r s a b c held sent (bytes, read, (begun, left, e, written)) is out =
    (bytes, read, (begun, left, e, sent_out F a b c held sent begun written is out))

-- ---- how the three calls of a run end: `n` reads the lines, `e` ends the input, and `r` sends what is held

pub on_ok : {A : Type 0} (r e n : Result A LinesError) (P Q R S X : Type 0) → UnlessWriteFailed r (r ≡ e) → (e ≡ n) ⊎ (e ≡ Err Memory)
    → OnOk n P → OnOk e Q → OnOk e R → UnlessWriteFailed r S → (P → Q → R → S → X) → OnOk r X
on_ok (Ok a) e n P Q R S X same (inl en) p q t s f =
    let ne : n ≡ Ok a = sym en ∙ sym same in
    f (rw ne at p) (rw (sym same) at q) (rw (sym same) at t) s
on_ok (Ok a) e n P Q R S X same (inr memory) p q t s f = let not : ⊥ = cc in absurd not
on_ok (Err error) e n P Q R S X same either p q t s f = tt

pub on_read : {A : Type 0} (r e n : Result A LinesError) (P Q R S X : Type 0) → UnlessWriteFailed r (r ≡ e) → (e ≡ n) ⊎ (e ≡ Err Memory)
    → (IsErrOf n Read → P) → (IsErrOf e Read → Q) → (IsErrOf e Read → R) → UnlessWriteFailed r S → (P → Q → R → S → X) → IsErrOf r Read → X
on_read r e n P Q R S X same either p q t s f is =
    let re : Err Read ≡ e = rw is at same in
    let out : S = rw is at s in
    elim either [
      | inl en ↦ f (p (sym en ∙ sym re)) (q (sym re)) (t (sym re)) out
      | inr memory ↦ let not : ⊥ = cc in absurd not
    ]

pub on_memory : {A : Type 0} (r e n : Result A LinesError) (P Q R S X : Type 0) → UnlessWriteFailed r (r ≡ e) → IfErr n (λ error. IsWriteError error → e ≡ n)
    → OnOk n P → (IsErrOf n Read → Q) → (IsErrOf n Memory → R) → UnlessWriteFailed r S
    → (P → S → IsErrOf e Memory → X) → (Q → S → IsErrOf e Memory → X) → (R → S → IsErrOf e Memory → X) → IsErrOf r Memory → X
on_memory r e (Ok a) P Q R S X same write p q t s fp fq ft is = fp p (rw is at s) (sym (rw is at same))
on_memory r e (Err Memory) P Q R S X same write p q t s fp fq ft is = ft (t refl) (rw is at s) (sym (rw is at same))
on_memory r e (Err Read) P Q R S X same write p q t s fp fq ft is = fq (q refl) (rw is at s) (sym (rw is at same))
on_memory r e (Err (Write reason)) P Q R S X same write p q t s fp fq ft is =
    let re : Err Memory ≡ e = rw is at same in
    let failed : e ≡ Err (Write reason) = write tt in
    let not : ⊥ = cc in absurd not

-- ---- if the output failed

pub input_begun : {H : Type 0} (E F : H → List (List ℕ) → List ℕ) (N : H → List (List ℕ) → H → Type 0) (f g : H) (r s a b c : Option (List ℕ)) (held sent : List ℕ)
    → HasAnsweredInputAnd (F f) (λ lines. GoesOn E F N f lines g) (traffic r s (append_known a []) (append_known b held))
    → sent ≡ held ++ E g [] → Appends b c sent → HasAnsweredInput (E f) (traffic r s a c)
input_begun E F N f g r s a b c held sent (bytes, read, end, written, on) is out = (
  bytes,
  read,
  end,
  rw (whole E F N f g (lines_of bytes) on) (appends_held a b c held (F f (lines_of bytes)) (E g []) written (rw is at out)),
)

pub lines_begun : {H : Type 0} (E F : H → List (List ℕ) → List ℕ) (N : H → List (List ℕ) → H → Type 0) (f g : H) (r s a b c : Option (List ℕ)) (held sent : List ℕ)
    → HasAnsweredEndedAnd (F f) (λ lines. GoesOn E F N f lines g) (traffic r s (append_known a []) (append_known b held))
    → sent ≡ held ++ E g [] → Appends b c sent → HasAnsweredEnded (E f) (traffic r s a c)
lines_begun E F N f g r s a b c held sent (bytes, read, written, on) is out = (
  bytes,
  read,
  rw (whole E F N f g (ended_lines_of bytes) on) (appends_held a b c held (F f (ended_lines_of bytes)) (E g []) written (rw is at out)),
)

begun_still : (a b c : Option (List ℕ)) (unsent x : List ℕ) → Appends (append_known a []) (append_known b unsent) x → Keeps b c → Appends a (append_known c unsent) x
begun_still None b c unsent x h k = tt
begun_still (Some xs) None c unsent x h k = absurd h
begun_still (Some xs) (Some ys) None unsent x h k = absurd k
begun_still (Some xs) (Some ys) (Some zs) unsent x h k = ap (λ v. v ++ unsent) k ∙ h ∙ ap (λ v. v ++ x) (append-nil xs)

pub some_begun : (F : List (List ℕ) → List ℕ) (r s a b c : Option (List ℕ)) → HasBegun (HasAnsweredSome F) (traffic r s (append_known a []) b) → Keeps b c
    → HasBegun (HasAnsweredSome F) (traffic r s a c)
some_begun F r s a b c (unsent, (bytes, read, (begun, left, e, written))) k =
    (unsent, (bytes, read, (begun, left, e, begun_still a b c unsent (F begun) written k)))

pub on_write : {A : Type 0} (r e n : Result A LinesError) (P Q R T U V M S K X : Type 0) → (e ≡ n) ⊎ (e ≡ Err Memory)
    → OnOk n P → (IsErrOf n Read → Q) → (IsErrOf n Memory → R) → IfErr n (λ error. IsWriteError error → T)
    → OnOk e U → (IsErrOf e Read → V) → (IsErrOf e Memory → M) → IfErr n (λ error. IsWriteError error → e ≡ n)
    → IfErr r (λ error. IsWriteError error → UnlessWriteFailed e S) → IfErr e (λ error. IsWriteError error → K)
    → (P → U → S → X) → (Q → V → S → X) → (P → M → S → X) → (Q → M → S → X) → (R → M → S → X) → (T → K → X)
    → IfErr r (λ error. IsWriteError error → X)
on_write (Ok a) e n P Q R T U V M S K X same p q m t u v w sure s k fp fq fpm fqm frm ft = tt
on_write (Err error) (Ok a) (Ok b) P Q R T U V M S K X same p q m t u v w sure s k fp fq fpm fqm frm ft = λ failed. fp p u (s failed)
on_write (Err error) (Ok a) (Err other) P Q R T U V M S K X same p q m t u v w sure s k fp fq fpm fqm frm ft = elim same [ inl is ↦ (let not : ⊥ = cc in absurd not) | inr is ↦ (let not : ⊥ = cc in absurd not) ]
on_write (Err error) (Err Memory) (Ok b) P Q R T U V M S K X same p q m t u v w sure s k fp fq fpm fqm frm ft = λ failed. fpm p (w refl) (s failed)
on_write (Err error) (Err Memory) (Err Memory) P Q R T U V M S K X same p q m t u v w sure s k fp fq fpm fqm frm ft = λ failed. frm (m refl) (w refl) (s failed)
on_write (Err error) (Err Memory) (Err Read) P Q R T U V M S K X same p q m t u v w sure s k fp fq fpm fqm frm ft = λ failed. fqm (q refl) (w refl) (s failed)
on_write (Err error) (Err Memory) (Err (Write reason)) P Q R T U V M S K X same p q m t u v w sure s k fp fq fpm fqm frm ft =
    let is : Err Memory ≡ Err (Write reason) = sure tt in
    let not : ⊥ = cc in absurd not
on_write (Err error) (Err Read) (Ok b) P Q R T U V M S K X same p q m t u v w sure s k fp fq fpm fqm frm ft = elim same [ inl is ↦ (let not : ⊥ = cc in absurd not) | inr is ↦ (let not : ⊥ = cc in absurd not) ]
on_write (Err error) (Err Read) (Err Memory) P Q R T U V M S K X same p q m t u v w sure s k fp fq fpm fqm frm ft = elim same [ inl is ↦ (let not : ⊥ = cc in absurd not) | inr is ↦ (let not : ⊥ = cc in absurd not) ]
on_write (Err error) (Err Read) (Err Read) P Q R T U V M S K X same p q m t u v w sure s k fp fq fpm fqm frm ft = λ failed. fq (q refl) (v refl) (s failed)
on_write (Err error) (Err Read) (Err (Write reason)) P Q R T U V M S K X same p q m t u v w sure s k fp fq fpm fqm frm ft = elim same [ inl is ↦ (let not : ⊥ = cc in absurd not) | inr is ↦ (let not : ⊥ = cc in absurd not) ]
on_write (Err error) (Err (Write reason)) (Ok b) P Q R T U V M S K X same p q m t u v w sure s k fp fq fpm fqm frm ft = elim same [ inl is ↦ (let not : ⊥ = cc in absurd not) | inr is ↦ (let not : ⊥ = cc in absurd not) ]
on_write (Err error) (Err (Write reason)) (Err Memory) P Q R T U V M S K X same p q m t u v w sure s k fp fq fpm fqm frm ft = elim same [ inl is ↦ (let not : ⊥ = cc in absurd not) | inr is ↦ (let not : ⊥ = cc in absurd not) ]
on_write (Err error) (Err (Write reason)) (Err Read) P Q R T U V M S K X same p q m t u v w sure s k fp fq fpm fqm frm ft = elim same [ inl is ↦ (let not : ⊥ = cc in absurd not) | inr is ↦ (let not : ⊥ = cc in absurd not) ]
on_write (Err error) (Err (Write reason)) (Err (Write other)) P Q R T U V M S K X same p q m t u v w sure s k fp fq fpm fqm frm ft = λ failed. ft (t tt) (k tt)

pub unless_any : {A : Type 0} (r : Result A LinesError) (P : Type 0) → P → UnlessWriteFailed r P
unless_any (Ok a) P h = h
unless_any (Err Memory) P h = h
unless_any (Err Read) P h = h
unless_any (Err (Write reason)) P h = tt

pub keeps_same : (a : Option (List ℕ)) → Keeps a a
keeps_same None = tt
keeps_same (Some xs) = refl

-- Where each line is answered at once, the answers to the first lines are what was to be written.
pub some_of_any : (F : List (List ℕ) → List ℕ) (t : Traffic) → HasAnsweredInput F t ⊎ (HasAnsweredEnded F t ⊎ HasAnsweredSome F t) → HasAnsweredSome F t
some_of_any F t (inl (bytes, read, end, written)) = (bytes, read, (lines_of bytes, [], sym (append-nil (lines_of bytes)), written))
some_of_any F t (inr (inl (bytes, read, written))) = (bytes, read, (ended_lines_of bytes, last_line (unended_of bytes), lines-split bytes, written))
some_of_any F t (inr (inr some)) = some

pub if_write_failed_by : {A : Type 0} (r : Result A LinesError) (P Q : Type 0) → (P → Q) → IfErr r (λ error. IsWriteError error → P) → IfErr r (λ error. IsWriteError error → Q)
if_write_failed_by (Ok a) P Q f h = tt
if_write_failed_by (Err error) P Q f h = λ failed. f (h failed)

-- the error of a callee is passed on
pub if_write_failed : {A : Type 0} (r : Result A LinesError) (error inner : LinesError) (P : Type 0) → r ≡ Err error → error ≡ inner → (IsWriteError inner → P)
    → IfErr r (λ error. IsWriteError error → P)
if_write_failed r error inner P is same h = rw (is, same) h
