-- A handler after no lines is what it was, and one after some lines and then more is one after all of them.
use Rattle.std.proofs.Common.{◌≡◌, ℕ, List, [], ◌++◌, Result, Ok, Err, OnOk, OnErr, sym, ap, ◌∙◌, append_assoc}
use Rattle.grok_lines.specs.Streams.{GoesOn}

pub goes_on_none : {H : Type 0} (E F : H → List (List ℕ) → List ℕ) (N : H → List (List ℕ) → H → Type 0) (none : (h : H) → F h [] ≡ []) (f : H) → GoesOn E F N f [] f
goes_on_none E F N none f = record {
  first = λ more. ap (λ v. v ++ F f more) (sym (none f));
  all = λ more. ap (λ v. v ++ E f more) (sym (none f));
  next = λ more later is. is;
}

pub goes_on_both : {H : Type 0} (E F : H → List (List ℕ) → List ℕ) (N : H → List (List ℕ) → H → Type 0) (f g h : H) (lines more : List (List ℕ))
    → GoesOn E F N f lines g → GoesOn E F N g more h → GoesOn E F N f (lines ++ more) h
goes_on_both E F N f g h lines more a b = record {
  first = λ rest. ap (F f) (append_assoc lines more rest) ∙ a.first (more ++ rest) ∙ ap (λ v. F f lines ++ v) (b.first rest)
      ∙ sym (append_assoc (F f lines) (F g more) (F h rest)) ∙ ap (λ v. v ++ F h rest) (sym (a.first more));
  all = λ rest. ap (E f) (append_assoc lines more rest) ∙ a.all (more ++ rest) ∙ ap (λ v. F f lines ++ v) (b.all rest)
      ∙ sym (append_assoc (F f lines) (F g more) (E h rest)) ∙ ap (λ v. v ++ E h rest) (sym (a.first more));
  next = λ rest later is. let moved : N f (lines ++ (more ++ rest)) later = a.next (more ++ rest) later (b.next rest later is) in
      rw append_assoc moved;
}

-- A handler goes on as what is seen of it does.
pub goes_on_by : {H K : Type 0} (E F : K → List (List ℕ) → List ℕ) (N : K → List (List ℕ) → K → Type 0) (view : H → K) (f : H) (lines : List (List ℕ)) (g : H)
    → GoesOn E F N (view f) lines (view g) → GoesOn (λ h. E (view h)) (λ h. F (view h)) (λ h more later. N (view h) more (view later)) f lines g
goes_on_by E F N view f lines g on = record { first = on.first; all = on.all; next = λ more later is. on.next more (view later) is }

pub on_ok_by : {A B : Type 0} (result : Result A B) (P Q : Type 0) → (P → Q) → OnOk result P → OnOk result Q
on_ok_by (Ok value) P Q f h = f h
on_ok_by (Err error) P Q f h = tt

pub on_err_by : {A B : Type 0} (result : Result A B) (P Q : Type 0) → (P → Q) → OnErr result P → OnErr result Q
on_err_by (Ok value) P Q f h = tt
on_err_by (Err error) P Q f h = f h
