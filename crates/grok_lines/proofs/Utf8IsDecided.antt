-- The test `is_utf8` is true for a line exactly if the line is UTF-8.
use Rattle.std.proofs.Common.{◌≡◌, ℕ, Bool, true, false, List, refl}
use Rattle.std.specs.Str.{is_utf8, IsUtf8}
use Rattle.std.proofs.lemmas.Str.{is_utf8-from_IsUtf8, IsUtf8-from_is_utf8}

pub text_of_line : (line : List ℕ) → IsUtf8 line → is_utf8 line ≡ true
text_of_line line h = is_utf8-from_IsUtf8 line h

not-step : (t : Bool) → (t ≡ true → ⊥) → t ≡ false
not-step true h = absurd (h refl)
not-step false h = refl

pub no_text_of_line : (line : List ℕ) → ¬ (IsUtf8 line) → is_utf8 line ≡ false
no_text_of_line line h = not-step (is_utf8 line) (λ e. h (IsUtf8-from_is_utf8 line e))
