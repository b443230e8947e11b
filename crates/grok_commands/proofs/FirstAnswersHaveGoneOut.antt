-- If the elements of a list are answered one after another, exactly the answers to the first of them have gone out
-- after each step.
use Rattle.std.proofs.Common.{◌≡◌, ℕ, List, [], ◌∷◌, ◌++◌, Option, Some, None, refl, sym, ap, map, ◌∙◌, append_assoc, append-nil}
use Rattle.std.specs.Io.KnownBytes.{Appends, Keeps}
use Rattle.grok_lines.proofs.AppendsAddUp.{appends_both, appends_same}
use Rattle.grok_commands.specs.Answers.{AreAnswers, HasAnswered, HasAnsweredFirst}

-- `sent` are the first of `all`, their answers have gone out, and `left` are the others
pub record Answered {A : Type 0} (IsAnswer : A → List ℕ → Type 0) (all left : List A)
    (old new : Option (List ℕ)) : Type 0 where
  pub sent : List A
  pub are : all ≡ sent ++ left
  pub written : HasAnswered IsAnswer sent old new

pub answers_more : {A : Type 0} (IsAnswer : A → List ℕ → Type 0) (xs : List A) (x : A) (bytes answer : List ℕ)
    → AreAnswers IsAnswer xs bytes → IsAnswer x answer → AreAnswers IsAnswer (xs ++ x ∷ []) (bytes ++ answer)
answers_more IsAnswer [] x bytes answer h is = (answer, [], rw h (sym (append-nil answer)), is, refl)
answers_more IsAnswer (y ∷ xs) x bytes answer (first, rest, e, is_first, are) is =
    (first, rest ++ answer, rw e (append_assoc first rest answer), is_first, answers_more IsAnswer xs x rest answer are is)

pub answered_start : {A : Type 0} (IsAnswer : A → List ℕ → Type 0) (all : List A) (old : Option (List ℕ)) → Answered IsAnswer all all old old
answered_start IsAnswer all old = record { sent = []; are = refl; written = ([], refl, appends_same old) }

pub answered_step : {A : Type 0} (IsAnswer : A → List ℕ → Type 0) (all left next : List A) (x : A) (old now new : Option (List ℕ)) (answer : List ℕ)
    → Answered IsAnswer all left old now → left ≡ x ∷ next → IsAnswer x answer → Appends now new answer → Answered IsAnswer all next old new
answered_step IsAnswer all left next x old now new answer h e is w =
    let wrote = h.written in
    record {
      sent = h.sent ++ x ∷ [];
      are = h.are ∙ ap (λ v. h.sent ++ v) e ∙ sym (append_assoc h.sent (x ∷ []) next);
      written = (wrote.0 ++ answer, answers_more IsAnswer h.sent x wrote.0 answer wrote.1 is, appends_both old now new wrote.0 answer wrote.2 w);
    }

pub answered_whole : {A : Type 0} (IsAnswer : A → List ℕ → Type 0) (all left : List A) (old now : Option (List ℕ))
    → Answered IsAnswer all left old now → left ≡ [] → HasAnswered IsAnswer all old now
answered_whole IsAnswer all left old now h e =
    let whole : all ≡ h.sent = h.are ∙ ap (λ v. h.sent ++ v) e ∙ append-nil h.sent in
    rw whole h.written

-- ---- answers of another list

are_mapped : {A B : Type 0} (IsAnswer : B → List ℕ → Type 0) (f : A → B) (xs : List A) (bytes : List ℕ)
    → AreAnswers (λ x. IsAnswer (f x)) xs bytes → AreAnswers IsAnswer (map f xs) bytes
are_mapped IsAnswer f [] bytes are = are
are_mapped IsAnswer f (x ∷ xs) bytes (answer, rest, e, is, are) = (answer, rest, e, is, are_mapped IsAnswer f xs rest are)

pub answered_mapped : {A B : Type 0} (IsAnswer : B → List ℕ → Type 0) (f : A → B) (xs : List A) (old new : Option (List ℕ))
    → HasAnswered (λ x. IsAnswer (f x)) xs old new → HasAnswered IsAnswer (map f xs) old new
answered_mapped IsAnswer f xs old new (bytes, are, appends) = (bytes, are_mapped IsAnswer f xs bytes are, appends)

map_append : {A B : Type 0} (f : A → B) (xs ys : List A) → map f (xs ++ ys) ≡ map f xs ++ map f ys
map_append f [] ys = refl
map_append f (x ∷ xs) ys = ap (λ zs. f x ∷ zs) (map_append f xs ys)

pub begun_mapped : {A B : Type 0} (IsAnswer : B → List ℕ → Type 0) (f : A → B) (xs : List A) (old new : Option (List ℕ))
    → HasAnsweredFirst (λ x. IsAnswer (f x)) xs old new → HasAnsweredFirst IsAnswer (map f xs) old new
begun_mapped IsAnswer f xs old new (sent, unsent, are, answered) =
    (map f sent, map f unsent, ap (map f) are ∙ map_append f sent unsent, answered_mapped IsAnswer f sent old new answered)
