-- The first character after a name decides how the rest is read.
use Rattle.std.proofs.Common.{◌≡◌, ℕ, ◌<◌, List, [], ◌∷◌, ◌++◌, length, Some, None, refl, ap, ◌∙◌, arith, length-append}
use lib.Utf8.{encode}
use Rattle.std.proofs.lemmas.Str.{char_from_byte, length-encode, len_utf8_bounds, encode_ascii}
use Rattle.std.proofs.lemmas.Bool.Decides.{nat_tests}
use Rattle.groklog_definitions.specs.DefinitionTexts.{definition_after_blanks, definition_after}

starts_with : (text more : List ℕ) (c : ℕ) → text ≡ encode c ++ more → c < 128 → text ≡ c ∷ more
starts_with text more c e low = e ∙ ap (λ bs. bs ++ more) (encode_ascii c low)

pub after_nothing : (text : List ℕ) → length text ≡ 0 → definition_after text ≡ None
after_nothing [] e = refl
after_nothing (b ∷ bs) e = absurd (omega arith)

pub after_equals : (text more : List ℕ) → text ≡ encode 61 ++ more → definition_after text ≡ Some more
after_equals text more e = rw (starts_with text more 61 e (omega arith)) refl

pub after_space : (text more : List ℕ) → text ≡ encode 32 ++ more → definition_after text ≡ definition_after_blanks more
after_space text more e = rw (starts_with text more 32 e (omega arith)) refl

pub after_tab : (text more : List ℕ) → text ≡ encode 9 ++ more → definition_after text ≡ definition_after_blanks more
after_tab text more e = rw (starts_with text more 9 e (omega arith)) refl

char_nonempty : (c : ℕ) (more : List ℕ) → 0 < length (encode c ++ more)
char_nonempty c more = let h = len_utf8_bounds c in omega (arith, length-append (encode c) more, length-encode c)

-- If the first character of a text isn't the ASCII character `d`, its first byte isn't `d` either.
other_byte : (b c d : ℕ) (bs more : List ℕ) → (b ∷ bs) ≡ encode c ++ more → d < 128 → ¬ (c ≡ d) → ¬ (b ≡ d)
other_byte b c d bs more e low n = λ same.
    let found : c ≡ b = char_from_byte (b ∷ bs) more c e (rw same low) (omega arith) in n (found ∙ same)

pub after_other : (text more : List ℕ) (c : ℕ) → text ≡ encode c ++ more → ¬ (c ≡ 61) → ¬ (c ≡ 32) → ¬ (c ≡ 9) → definition_after text ≡ None
after_other [] more c e n61 n32 n9 = let n = char_nonempty c more in absurd (omega (arith, ap length e))
after_other (b ∷ bs) more c e n61 n32 n9 =
    let b61 : ¬ (b ≡ 61) = other_byte b c 61 bs more e (omega arith) n61 in
    let b32 : ¬ (b ≡ 32) = other_byte b c 32 bs more e (omega arith) n32 in
    let b9 : ¬ (b ≡ 9) = other_byte b c 9 bs more e (omega arith) n9 in
    grind (arith, nat_tests)

pub ruleset texts_after_names = (after_nothing, after_equals, after_space, after_tab, after_other)
