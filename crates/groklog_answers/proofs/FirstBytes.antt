-- What is known of a text that doesn't begin with a certain byte.
use Rattle.std.proofs.Common.{◌≡◌, ◌≢◌, ℕ, Bool, false, ◌&&◌, ◌==◌, List, [], ◌∷◌, if◌then◌else◌, refl, ap}
use Rattle.std.proofs.lemmas.Bool.{ne_eqb}
use Rattle.groklog_answers.specs.Values.{begins_with_digit, begins_with_fraction, begins_with_number, json_sign, without_plus, without_sign, without_zeros}

-- The text doesn't begin with this byte.
abbrev pub BeginsOtherwise : ℕ → List ℕ → Type 0
BeginsOtherwise byte text = (rest : List ℕ) → text ≢ byte ∷ rest

pub other_byte : (byte b : ℕ) (text : List ℕ) → BeginsOtherwise byte (b ∷ text) → (b == byte) ≡ false
other_byte byte b text other = ne_eqb b byte (λ e. other text (ap (λ first. first ∷ text) e))

pub no_fraction : (text : List ℕ) → BeginsOtherwise 46 text → begins_with_fraction text ≡ false
no_fraction [] other = refl
no_fraction (b ∷ text) other = ap (λ is. is && begins_with_digit text) (other_byte 46 b text other)

pub no_minus : (text : List ℕ) → BeginsOtherwise 45 text → json_sign text ≡ []
no_minus [] other = refl
no_minus (b ∷ text) other = rw (other_byte 45 b text other) refl

pub sign_is_plus : (text : List ℕ) → BeginsOtherwise 45 text → without_sign text ≡ without_plus text
sign_is_plus [] other = refl
sign_is_plus (b ∷ text) other = ap (λ is. if is then text else without_plus (b ∷ text)) (other_byte 45 b text other)

pub no_plus : (text : List ℕ) → BeginsOtherwise 43 text → without_plus text ≡ text
no_plus [] other = refl
no_plus (b ∷ text) other = ap (λ is. if is && begins_with_number text then text else b ∷ text) (other_byte 43 b text other)

pub plus_before : (text rest : List ℕ) (is_number : Bool) → text ≡ 43 ∷ rest → is_number ≡ begins_with_number rest
    → without_plus text ≡ (if is_number then rest else text)
plus_before text rest is_number is e = rw (is, e) refl

pub no_zero : (text : List ℕ) → BeginsOtherwise 48 text → without_zeros text ≡ text
no_zero [] other = refl
no_zero (b ∷ text) other = ap (λ is. if is && begins_with_digit text then without_zeros text else b ∷ text) (other_byte 48 b text other)

pub zero_before : (text rest : List ℕ) (is_digit : Bool) → text ≡ 48 ∷ rest → is_digit ≡ begins_with_digit rest
    → without_zeros text ≡ (if is_digit then without_zeros rest else text)
zero_before text rest is_digit is e = rw (is, e) refl
