-- The texts of runs are shown one by one, and no shown text has an escape character.
use Rattle.std.proofs.Common.{◌≡◌, ℕ, ◌+◌, Bool, true, false, cond, ◌==◌, ◌||◌, List, [], ◌∷◌, ◌++◌, flat_map, refl, sym, ap, ◌∙◌, arith, string_bytes}
use Rattle.std.proofs.lemmas.Grind.{flat_map-append}
use Rattle.std.proofs.lemmas.Str.{encodes-append, chars-append, chars-nil, IsUtf8-string_bytes}
use Rattle.std.specs.Char.{encode_utf8}
use Rattle.std.specs.List.{list_any}
use Rattle.std.specs.Str.{chars, encode_utf8_all, IsUtf8}
use Rattle.groklog_reports.specs.Visible.{is_raw, shown_char, visible}
use Rattle.groklog_reports.proofs.ShownTextHasNoRawCharacter.{shown_characters}
use Rattle.marked_lines.specs.Runs.{runs_text}
use Rattle.marked_lines.specs.declared.runs.Run.{Run}
use lib.Utf8.{encode, next}

pub visible-append : (xs ys : List ℕ) → IsUtf8 xs → visible (xs ++ ys) ≡ visible xs ++ visible ys
unfolding visible
visible-append xs ys is = ap (λ cs. encode_utf8_all (flat_map shown_char cs)) (chars-append xs ys is)
    ∙ (ap encode_utf8_all (flat_map-append shown_char (chars xs) (chars ys))
    ∙ encodes-append (flat_map shown_char (chars xs)) (flat_map shown_char (chars ys)))

visible-nil : visible [] ≡ []
unfolding visible
visible-nil = ap (λ cs. encode_utf8_all (flat_map shown_char cs)) chars-nil

-- The texts of runs are shown one by one.
pub runs_shown : (runs : List Run) → flat_map (λ run. visible (string_bytes run.text)) runs ≡ visible (runs_text runs)
runs_shown [] = sym visible-nil
runs_shown (run ∷ runs) = ap (λ t. visible (string_bytes run.text) ++ t) (runs_shown runs)
    ∙ sym (visible-append (string_bytes run.text) (runs_text runs) (IsUtf8-string_bytes run.text))

-- Whether a byte is the escape character.
abbrev pub is_escape : ℕ → Bool
is_escape b = b == 27

one_more : (b : ℕ) (bs : List ℕ) → is_escape b ≡ false → list_any is_escape bs ≡ false → list_any is_escape (b ∷ bs) ≡ false
one_more b bs first others = ap (λ x. x || list_any is_escape bs) first ∙ others

none_if : (b : Bool) (xs ys : List ℕ) → list_any is_escape xs ≡ false → list_any is_escape ys ≡ false → list_any is_escape (cond b xs ys) ≡ false
none_if true xs ys one other = one
none_if false xs ys one other = other

second_none : (n : ℕ) → is_escape (192 + n) ≡ false
second_none n = grind arith

third_none : (n : ℕ) → is_escape (224 + n) ≡ false
third_none n = grind arith

fourth_none : (n : ℕ) → is_escape (240 + n) ≡ false
fourth_none n = grind arith

next_none : (c : ℕ) → is_escape (next c) ≡ false
next_none c = grind arith

-- The bytes of a character have an escape character only if it is one.
encode_none : (c : ℕ) → is_escape c ≡ false → list_any is_escape (encode_utf8 c) ≡ false
unfolding encode
encode_none c none = search (none_if, one_more, none, second_none, third_none, fourth_none, next_none) depth 14

raw_escape : (c : ℕ) → is_raw c ≡ false → is_escape c ≡ false
raw_escape c plain = grind arith

or_left : (a b : Bool) → (a || b) ≡ false → a ≡ false
or_left true b neither = neither
or_left false b neither = refl

or_right : (a b : Bool) → (a || b) ≡ false → b ≡ false
or_right true b neither = grind arith
or_right false b neither = neither

any_append : (xs ys : List ℕ) → list_any is_escape xs ≡ false → list_any is_escape ys ≡ false → list_any is_escape (xs ++ ys) ≡ false
any_append [] ys one other = other
any_append (x ∷ xs) ys one other = one_more x (xs ++ ys) (or_left (is_escape x) (list_any is_escape xs) one)
    (any_append xs ys (or_right (is_escape x) (list_any is_escape xs) one) other)

encodes_none : (cs : List ℕ) → list_any is_raw cs ≡ false → list_any is_escape (encode_utf8_all cs) ≡ false
encodes_none [] none = refl
encodes_none (c ∷ cs) none = any_append (encode_utf8 c) (encode_utf8_all cs)
    (encode_none c (raw_escape c (or_left (is_raw c) (list_any is_raw cs) none)))
    (encodes_none cs (or_right (is_raw c) (list_any is_raw cs) none))

-- A shown text has no escape character.
pub no_escape : (text : List ℕ) → IsUtf8 text → list_any is_escape (visible text) ≡ false
unfolding visible
no_escape text is = encodes_none (flat_map shown_char (chars text)) (shown_characters text is)
