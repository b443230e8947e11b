-- A JSON number holds no line feed.
use Rattle.std.proofs.Common.{◌≡◌, ◌⊎◌, inl, inr, ℕ, suc, ◌+◌, Bool, true, false, ◌||◌, ◌==◌, cond, List, [], ◌∷◌, drop, Option, Some, None, option_and_then, refl, ap, ◌∙◌, arith}
use Rattle.std.proofs.lemmas.Bool.{eqb-true, or_cases}
use Rattle.std.proofs.lemmas.Bool.Decides.{nat_tests}
use Rattle.std.specs.List.{prefix_len}
use Rattle.std.specs.Char.{is_ascii_digit}
use Rattle.json.specs.Word.{head, after_digits, after_minus, after_sign, after_whole, after_fraction, after_exponent, after_number}
use Rattle.json.specs.Print.{IsNumber}
use Rattle.grok_lines.specs.Lines.{IsLine}

digit_is_no_feed : (x : ℕ) → is_ascii_digit x ≡ true → (x == 10) ≡ false
digit_is_no_feed x h = grind (arith, nat_tests)

digits_at : (d : Bool) (x : ℕ) (xs : List ℕ) (n : ℕ) → (d ≡ true → (x == 10) ≡ false) → (IsLine (drop n xs) → IsLine xs)
    → IsLine (drop (cond d (1 + n) 0) (x ∷ xs)) → IsLine (x ∷ xs)
digits_at false x xs n other more h = h
digits_at true x xs n other more h =
    let e : 1 + n ≡ suc n = omega arith in
    (other refl, more (rw e at h))

digits : (t : List ℕ) → IsLine (drop (prefix_len is_ascii_digit t) t) → IsLine t
digits [] h = h
digits (x ∷ xs) h = digits_at (is_ascii_digit x) x xs (prefix_len is_ascii_digit xs) (digit_is_no_feed x) (digits xs) h

one : (c : ℕ) (t : List ℕ) → (c == 10) ≡ false → (head t == c) ≡ true → IsLine (drop 1 t) → IsLine t
one c [] other e h = tt
one c (x ∷ xs) other e h = (ap (λ y. y == 10) (eqb-true x c e) ∙ other, h)

-- A part was read from the start of a text, and the rest of the text is a line.
abbrev Then : Option (List ℕ) → Type 0
Then None = ⊥
Then (Some rest) = IsLine rest

by_test : (b : Bool) (x y : Option (List ℕ)) (P : Type 0) → (b ≡ true → Then x → P) → (Then y → P) → Then (cond b x y) → P
by_test true x y P f g h = f refl h
by_test false x y P f g h = g h

after_digits_line : (t : List ℕ) → Then (after_digits t) → IsLine t
after_digits_line t = by_test (prefix_len is_ascii_digit t == 0) None _ _ (λ e h. absurd h) (digits t)

either : (a b : ℕ) (t : List ℕ) → (a == 10) ≡ false → (b == 10) ≡ false
    → ((head t == a) ≡ true) ⊎ ((head t == b) ≡ true) → IsLine (drop 1 t) → IsLine t
either a b t p q (inl e) = one a t p e
either a b t p q (inr e) = one b t q e

skipped : (b : Bool) (t : List ℕ) → (b ≡ true → IsLine (drop 1 t) → IsLine t) → IsLine (cond b (drop 1 t) t) → IsLine t
skipped true t f h = f refl h
skipped false t f h = h

after_exponent_line : (t : List ℕ) → Then (after_exponent t) → IsLine t
after_exponent_line t =
    let u = drop 1 t in
    by_test ((head t == 101) || (head t == 69)) _ (Some t) _
    (λ e h. either 101 69 t refl refl (or_cases _ _ e) (skipped _ u (λ s. either 45 43 u refl refl (or_cases _ _ s)) (after_digits_line (after_sign u) h))) (λ h. h)

after_fraction_line : (t : List ℕ) → Then (after_fraction t) → IsLine t
after_fraction_line t = by_test (head t == 46) _ (Some t) _ (λ e h. one 46 t refl e (after_digits_line (drop 1 t) h)) (λ h. h)

after_whole_line : (t : List ℕ) → Then (after_whole t) → IsLine t
after_whole_line t = by_test (head t == 48) (Some (drop 1 t)) _ _ (λ e h. one 48 t refl e h) (after_digits_line t)

back : (f : List ℕ → Option (List ℕ)) → ((t : List ℕ) → Then (f t) → IsLine t) → (o : Option (List ℕ)) → Then (option_and_then f o) → Then o
back f p None h = h
back f p (Some t) h = p t h

after_number_line : (t : List ℕ) → Then (after_number t) → IsLine t
unfolding after_number
after_number_line t h =
    skipped (head t == 45) t (one 45 t refl)
    (after_whole_line (after_minus t) (back after_fraction after_fraction_line _ (back after_exponent after_exponent_line _ h)))

ended : (o : Option (List ℕ)) → o ≡ Some [] → Then o
ended None e = cc
ended (Some []) e = tt
ended (Some (x ∷ xs)) e = cc

pub number_is_line : (s : List ℕ) → IsNumber s → IsLine s
number_is_line s is = after_number_line s (ended (after_number s) is)
