-- The answers to some lines and then to more lines are the answers to all of them, if the later ones are numbered on
-- from the earlier ones.
use Rattle.std.proofs.Common.{◌≡◌, ℕ, suc, ◌+◌, List, [], ◌∷◌, ◌++◌, length, refl, sym, ap, ◌∙◌, append_assoc, arith}
use Rattle.grok_lines.specs.Streams.{answers_of, AreAnswersAfter}
use Rattle.grok_lines.specs.LineLaws.{AnswersByLinesAlone, AnswersGoOn}

same_number : (f : ℕ → List ℕ → List ℕ) (m n : ℕ) → m ≡ n → f m ≡ f n
same_number f m n e = ap f e

pub after_none : (f : ℕ → List ℕ → List ℕ) → AreAnswersAfter 0 f f
after_none f n = same_number f n (0 + n) (omega arith)

pub after_both : (count more : ℕ) (f g h : ℕ → List ℕ → List ℕ) → AreAnswersAfter count f g → AreAnswersAfter more g h → AreAnswersAfter (count + more) f h
after_both count more f g h a b n = b n ∙ a (more + n) ∙ same_number f (count + (more + n)) (count + more + n) (omega arith)

-- the answers depend on what the function answers to each number alone
pub answers_same : (f g : ℕ → List ℕ → List ℕ) (lines : List (List ℕ)) → ((n : ℕ) → f n ≡ g n) → answers_of f lines ≡ answers_of g lines
answers_same f g [] same = refl
answers_same f g (line ∷ lines) same =
    ap (λ answer. answer line ++ answers_of (λ n. f (suc n)) lines) (same 0)
    ∙ ap (λ v. g 0 line ++ v) (answers_same (λ n. f (suc n)) (λ n. g (suc n)) lines (λ n. same (suc n)))

pub answers_append : (f g : ℕ → List ℕ → List ℕ) (lines more : List (List ℕ)) → AreAnswersAfter (length lines) f g
    → answers_of f (lines ++ more) ≡ answers_of f lines ++ answers_of g more
answers_append f g [] more next = answers_same f g more (λ n. sym (next n ∙ same_number f (0 + n) n (omega arith)))
answers_append f g (line ∷ lines) more next =
    ap (λ v. f 0 line ++ v)
    (answers_append (λ n. f (suc n)) g lines more (λ n. next n ∙ same_number f (length (line ∷ lines) + n) (suc (length lines + n)) (omega arith)))
    ∙ sym (append_assoc (f 0 line) (answers_of (λ n. f (suc n)) lines) (answers_of g more))

pub answers_go_on : AnswersGoOn
answers_go_on = answers_append

pub answers_by_lines_alone : AnswersByLinesAlone
answers_by_lines_alone answer [] = refl
answers_by_lines_alone answer (line ∷ lines) = ap (λ v. answer line ++ v) (answers_by_lines_alone answer lines)
