-- The lines of a list that is cut in two are the ended lines of its first part, and then the lines of the rest of
-- that part followed by the second part.
use Rattle.std.proofs.Common.{◌≡◌, ℕ, Bool, true, false, List, [], ◌∷◌, ◌++◌, ◌==◌, if◌then◌else◌, refl, ap}
use Rattle.grok_lines.specs.Lines.{lines_of, ended_lines_of, unended_of, last_line, onto_first, onto_ended, is_none, IsLine}

-- the step of `ended-append`, by the first byte and by whether a line ends after it
ended-step : (t : Bool) (x : ℕ) (a b u : List ℕ) (lines : List (List ℕ))
    → ended_lines_of (a ++ b) ≡ lines ++ ended_lines_of (u ++ b) → t ≡ (x == 10)
    → (if t then [] ∷ ended_lines_of (a ++ b) else onto_ended x (ended_lines_of (a ++ b)))
    ≡ (if t then [] ∷ lines else onto_ended x lines) ++ ended_lines_of ((if is_none (if t then [] ∷ lines else onto_ended x lines) then x ∷ a else u) ++ b)
ended-step true x a b u lines h q = ap (λ w. [] ∷ w) h
ended-step false x a b u [] h q = rw (← q) refl
ended-step false x a b u (l ∷ ls) h q = ap (onto_ended x) h

pub ended-append : (a b : List ℕ) → ended_lines_of (a ++ b) ≡ ended_lines_of a ++ ended_lines_of (unended_of a ++ b)
ended-append [] b = refl
ended-append (x ∷ a) b = ended-step (x == 10) x a b (unended_of a) (ended_lines_of a) (ended-append a b) refl

unended-step : (t : Bool) (x : ℕ) (a b u : List ℕ) (lines : List (List ℕ))
    → ended_lines_of (a ++ b) ≡ lines ++ ended_lines_of (u ++ b) → unended_of (a ++ b) ≡ unended_of (u ++ b) → t ≡ (x == 10)
    → (if is_none (if t then [] ∷ ended_lines_of (a ++ b) else onto_ended x (ended_lines_of (a ++ b))) then x ∷ (a ++ b) else unended_of (a ++ b))
    ≡ unended_of ((if is_none (if t then [] ∷ lines else onto_ended x lines) then x ∷ a else u) ++ b)
unended-step true x a b u lines h k q = k
unended-step false x a b u [] h k q = rw (← q) refl
unended-step false x a b u (l ∷ ls) h k q = rw h k

pub unended-append : (a b : List ℕ) → unended_of (a ++ b) ≡ unended_of (unended_of a ++ b)
unended-append [] b = refl
unended-append (x ∷ a) b = unended-step (x == 10) x a b (unended_of a) (ended_lines_of a) (ended-append a b) (unended-append a b) refl

-- a line and its line feed come first
pub ended-line : (line after : List ℕ) → IsLine line → ended_lines_of (line ++ 10 ∷ after) ≡ line ∷ ended_lines_of after
ended-line [] after h = refl
ended-line (x ∷ line) after h = rw h.0 (ap (onto_ended x) (ended-line line after h.1))

pub unended-line : (line after : List ℕ) → IsLine line → unended_of (line ++ 10 ∷ after) ≡ unended_of after
unended-line [] after h = refl
unended-line (x ∷ line) after h = rw (h.0, ended-line line after h.1) (unended-line line after h.1)

pub ended-none : (line : List ℕ) → IsLine line → ended_lines_of line ≡ []
ended-none [] h = refl
ended-none (x ∷ line) h = rw (h.0, ended-none line h.1) refl

pub unended-none : (line : List ℕ) → IsLine line → unended_of line ≡ line
unended-none [] h = refl
unended-none (x ∷ line) h = rw (h.0, ended-none line h.1) refl

pub line-append : (a b : List ℕ) → IsLine a → IsLine b → IsLine (a ++ b)
line-append [] b h k = k
line-append (x ∷ a) b h k = (h.0, line-append a b h.1 k)

-- all the lines are the ended ones, and the rest
lines-step : (t : Bool) (x : ℕ) (a u : List ℕ) (lines : List (List ℕ))
    → lines_of a ≡ lines ++ last_line u → (lines ≡ [] → u ≡ a)
    → (if t then [] ∷ lines_of a else onto_first x (lines_of a))
    ≡ (if t then [] ∷ lines else onto_ended x lines) ++ last_line (if is_none (if t then [] ∷ lines else onto_ended x lines) then x ∷ a else u)
lines-step true x a u lines h d = ap (λ w. [] ∷ w) h
lines-step false x [] u [] h d = refl
lines-step false x (y ∷ a) u [] h d = let e : u ≡ y ∷ a = d refl in rw (h, e) refl
lines-step false x a u (l ∷ ls) h d = ap (onto_first x) h

none-step : (t : Bool) (x : ℕ) (a u : List ℕ) (lines : List (List ℕ))
    → (if t then [] ∷ lines else onto_ended x lines) ≡ []
    → (if is_none (if t then [] ∷ lines else onto_ended x lines) then x ∷ a else u) ≡ x ∷ a
none-step t x a u lines h = rw h refl

pub unended-all : (a : List ℕ) → ended_lines_of a ≡ [] → unended_of a ≡ a
unended-all [] h = refl
unended-all (x ∷ a) h = none-step (x == 10) x a (unended_of a) (ended_lines_of a) h

pub lines-split : (a : List ℕ) → lines_of a ≡ ended_lines_of a ++ last_line (unended_of a)
lines-split [] = refl
lines-split (x ∷ a) = lines-step (x == 10) x a (unended_of a) (ended_lines_of a) (lines-split a) (unended-all a)
