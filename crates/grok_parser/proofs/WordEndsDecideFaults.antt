-- A word of a placeholder ends without a fault exactly if `}`, `=` or `:` follows it, and an inline definition that
-- isn't empty does if `}` follows it.
use Rattle.std.proofs.Common.{◌≡◌, ℕ, ◌<◌, Bool, true, false, List, [], ◌∷◌, ◌++◌, length, Some, Ok, Err, get_or, refl, sym, ap, ◌∙◌, arith, length-append}
use lib.Utf8.{encode}
use Rattle.std.specs.List.{slice_get}
use Rattle.std.proofs.lemmas.Str.Pattern.{strip_prefix_char}
use Rattle.std.specs.Str.{chars}
use Rattle.std.proofs.lemmas.Str.{char_from_byte, length-encode, len_utf8_bounds, encode_ascii}
use Rattle.std.proofs.lemmas.Bool.{false≢true}
use Rattle.std.proofs.lemmas.Bool.Decides.{nat_tests}
use Rattle.grok_parser.specs.declared.malformed.GrokPatternError.TheVariants.{InvalidCharacter, InvalidPattern, InvalidPatternDefinition}
use Rattle.grok_parser.specs.Pieces.{is_terminator, word_end, definition_end}

pub terminator_ascii : (b : ℕ) → is_terminator b ≡ true → b < 128
terminator_ascii b e = grind (arith, nat_tests)

pub word_end_none : (word rest : List ℕ) → length rest ≡ 0 → word_end word rest ≡ Err InvalidPattern
word_end_none word [] e = refl
word_end_none word (b ∷ bs) e = absurd (omega arith)

pub first_from_get : (cs : List ℕ) (c : ℕ) → Some c ≡ slice_get cs 0 → get_or cs 0 0 ≡ c
first_from_get [] c e = cc
first_from_get (d ∷ cs) c e = cc

pub char_nonempty : (c : ℕ) (more : List ℕ) → 0 < length (encode c ++ more)
char_nonempty c more = let h = len_utf8_bounds c in omega (arith, length-append (encode c) more, length-encode c)

-- the same byte, if it is a terminator
pub bad_byte : (b c : ℕ) (bs more : List ℕ) → (b ∷ bs) ≡ encode c ++ more → is_terminator c ≡ false → (t : Bool) → is_terminator b ≡ t → is_terminator b ≡ false
bad_byte b c bs more e f false h = h
bad_byte b c bs more e f true h =
    let same : c ≡ b = char_from_byte (b ∷ bs) more c e (terminator_ascii b h) (omega arith) in
    absurd (false≢true (sym f ∙ (ap is_terminator same ∙ h)))

pub word_end_bad : (word rest more : List ℕ) (c : ℕ) → rest ≡ encode c ++ more → Some c ≡ slice_get (chars rest) 0 → is_terminator c ≡ false → word_end word rest ≡ Err (InvalidCharacter c)
word_end_bad word [] more c e g f = let n = char_nonempty c more in absurd (omega (arith, ap length e))
word_end_bad word (b ∷ bs) more c e g f =
    let bad : is_terminator b ≡ false = bad_byte b c bs more e f (is_terminator b) refl in
    let first : get_or (chars (b ∷ bs)) 0 0 ≡ c = first_from_get (chars (b ∷ bs)) c g in
    rw bad (rw first refl)

pub word_end_good : (word rest more : List ℕ) (c : ℕ) → rest ≡ encode c ++ more → is_terminator c ≡ true → word_end word rest ≡ Ok (record { word = word; terminator = c; rest = more })
word_end_good word rest more c e t =
    let whole : rest ≡ c ∷ more = e ∙ ap (λ bs. bs ++ more) (encode_ascii c (terminator_ascii c t)) in
    rw whole (rw t refl)

pub ruleset word_ends = (word_end_none, word_end_bad, word_end_good)

pub definition_end_empty : (definition rest : List ℕ) → length definition ≡ 0 → definition_end definition rest ≡ Err InvalidPatternDefinition
definition_end_empty definition [] e = refl
definition_end_empty definition (b ∷ bs) e = grind (arith, nat_tests)

pub definition_end_good : (definition rest more : List ℕ) → rest ≡ 125 ∷ more → ¬ (length definition ≡ 0) → definition_end definition rest ≡ Ok (definition, more)
definition_end_good definition rest more e n = rw e (grind (arith, nat_tests))

pub definition_end_bad : (definition rest : List ℕ) → ((more : List ℕ) → rest ≡ encode 125 ++ more → ⊥) → definition_end definition rest ≡ Err InvalidPatternDefinition
definition_end_bad definition [] n = refl
definition_end_bad definition (b ∷ bs) n = let h : ¬ (b ≡ 125) = λ e. n bs (ap (λ x. x ∷ bs) e ∙ ap (λ xs. xs ++ bs) (sym (encode_ascii 125 (omega arith)))) in grind (arith, nat_tests)

pub ruleset definition_ends = (definition_end_empty, definition_end_good, definition_end_bad, strip_prefix_char)
