-- A shown text has no character that a terminal could take as a command, and a text without them is
-- shown as it is.
use Rattle.std.proofs.Common.{◌≡◌, ℕ, ◌<◌, Bool, true, false, cond, List, [], ◌∷◌, ◌++◌, length, refl, sym, ap, ◌∙◌, append_assoc, arith, nat_lt, ◌&&◌, ◌||◌}
use Rattle.std.proofs.lemmas.Grind.{common_steps}
use Rattle.std.proofs.lemmas.List.{flat_map_more}
use Rattle.std.proofs.lemmas.Str.{encode_ascii, encodes-append, chars-encodes, chars_from_encodes, encodes-chars, scalars-chars}
use Rattle.std.specs.Char.{encode_utf8}
use Rattle.std.specs.Char.Escape.{escape_default, escape_unicode, hex_digit_at, short_escape}
use Rattle.std.specs.List.{flat_map, list_any, list_all}
use Rattle.std.specs.Str.{chars, encode_utf8_all, IsUtf8}
use Rattle.groklog_reports.specs.Visible.{is_raw, has_raw, shown_char, visible}
use lib.Utf8.{scalar, scalars}

-- One more character is appended to those of an escape.
pub pushed : (s t b ys : List ℕ) (c : ℕ) → t ≡ s ++ encode_utf8 c → s ≡ b ++ encode_utf8_all ys
    → t ≡ b ++ encode_utf8_all (ys ++ c ∷ [])
pushed s t b ys c is written = grind (arith, common_steps, encodes-append ys (c ∷ []))

-- A character that comes next has gone to those that came.
pub moved : (ys rest after all : List ℕ) (c : ℕ) → rest ≡ c ∷ after → ys ++ rest ≡ all → (ys ++ c ∷ []) ++ after ≡ all
moved ys rest after all c is left = grind (arith, common_steps)

-- The characters that are shown for one more character.
pub shown_more : (b s t ys : List ℕ) (c : ℕ) → t ≡ s ++ encode_utf8_all (shown_char c)
    → s ≡ b ++ encode_utf8_all (flat_map shown_char ys) → t ≡ b ++ encode_utf8_all (flat_map shown_char (ys ++ c ∷ []))
shown_more b s t ys c is written = is ∙ (ap (λ x. x ++ encode_utf8_all (shown_char c)) written
    ∙ (append_assoc b (encode_utf8_all (flat_map shown_char ys)) (encode_utf8_all (shown_char c))
    ∙ ap (λ x. b ++ x) (sym (encodes-append (flat_map shown_char ys) (shown_char c)) ∙ ap encode_utf8_all (flat_map_more shown_char [] ys c))))

-- A character that was read has gone to those that were.
pub read_more : (ys rest after text : List ℕ) (c : ℕ) → rest ≡ encode_utf8 c ++ after
    → encode_utf8_all ys ++ rest ≡ text → encode_utf8_all (ys ++ c ∷ []) ++ after ≡ text
read_more ys rest after text c is left = grind (arith, common_steps, encodes-append ys (c ∷ []))

-- A character of ASCII that prints.
abbrev pub is_printable : ℕ → Bool
is_printable c = nat_lt 31 c && nat_lt c 127

printable_is_plain : (c : ℕ) → 31 < c → c < 127 → is_raw c ≡ false
printable_is_plain c above below = grind arith

printable_is_scalar : (c : ℕ) → 31 < c → c < 127 → scalar c ≡ true
printable_is_scalar c above below = grind arith

-- A digit of a code is a digit or a letter.
digit_is_printable : (p c : ℕ) → is_printable (hex_digit_at p c) ≡ true
digit_is_printable p c = grind arith

-- Each character prints.
unfoldable AllPrint : List ℕ → Type 0
AllPrint xs = list_all is_printable xs ≡ true

none_print : AllPrint []
unfolding AllPrint
none_print = refl

one_more_prints : (a : ℕ) (xs : List ℕ) → is_printable a ≡ true → AllPrint xs → AllPrint (a ∷ xs)
unfolding AllPrint
one_more_prints a xs first others = ap (λ b. b && list_all is_printable xs) first ∙ others

print_if : (b : Bool) (xs ys : List ℕ) → (b ≡ true → AllPrint xs) → (b ≡ false → AllPrint ys) → AllPrint (cond b xs ys)
print_if true xs ys one other = one refl
print_if false xs ys one other = other refl

-- What follows the digits of a code, and what stands before them.
code : (ds : List ℕ) → AllPrint ds → AllPrint (92 ∷ 117 ∷ 123 ∷ ds)
code ds digits = one_more_prints _ _ refl (one_more_prints _ _ refl (one_more_prints _ _ refl digits))

digit : (p c : ℕ) (ds : List ℕ) → AllPrint ds → AllPrint (hex_digit_at p c ∷ ds)
digit p c ds = one_more_prints _ _ (digit_is_printable p c)

brace : AllPrint (125 ∷ [])
brace = one_more_prints _ _ refl none_print

code_prints : (c : ℕ) → AllPrint (escape_unicode c)
code_prints c = search (print_if, code, digit, brace) depth 24

-- The letter of a short escape prints.
letter_is_printable : (c : ℕ) → nat_lt 0 (short_escape c) ≡ true → is_printable (short_escape c) ≡ true
letter_is_printable c some = grind arith

not_printable : (c : ℕ) → is_raw c ≡ true → nat_lt c 32 ≡ false → nat_lt c 127 ≡ true → ⊥
not_printable c raw above below = grind (arith, printable_is_plain c)

short_prints : (c : ℕ) → nat_lt 0 (short_escape c) ≡ true → AllPrint (92 ∷ short_escape c ∷ [])
short_prints c some = one_more_prints _ _ refl (one_more_prints _ _ (letter_is_printable c some) none_print)

is_no_letter : (c : ℕ) → is_raw c ≡ true → nat_lt c 32 ≡ false → nat_lt c 127 ≡ true → AllPrint (c ∷ [])
is_no_letter c raw above below = absurd (not_printable c raw above below)

-- An escape has only characters that print.
escape_prints : (c : ℕ) → is_raw c ≡ true → AllPrint (escape_default c)
escape_prints c raw = search (print_if, code_prints c, short_prints c, is_no_letter c raw)

-- Each character is a scalar value, and none is raw.
unfoldable AreSafe : List ℕ → Type 0
AreSafe xs = (list_any is_raw xs ≡ false) × (scalars xs ≡ true)

one_more_is_safe : (x : ℕ) (xs : List ℕ) → is_raw x ≡ false → scalar x ≡ true → AreSafe xs → AreSafe (x ∷ xs)
unfolding AreSafe
one_more_is_safe x xs plain is_scalar rest =
    (ap (λ b. b || list_any is_raw xs) plain ∙ rest.0, ap (λ b. b && scalars xs) is_scalar ∙ rest.1)

printable_parts : (x : ℕ) → is_printable x ≡ true → (is_raw x ≡ false) × (scalar x ≡ true)
printable_parts x printable = (printable_is_plain x (grind arith) (grind arith), printable_is_scalar x (grind arith) (grind arith))

and_left : (a b : Bool) → (a && b) ≡ true → a ≡ true
and_left true b both = refl
and_left false b both = both

and_right : (a b : Bool) → (a && b) ≡ true → b ≡ true
and_right true b both = both
and_right false b both = absurd (grind arith)

or_left : (a b : Bool) → (a || b) ≡ false → a ≡ false
or_left true b neither = neither
or_left false b neither = refl

or_right : (a b : Bool) → (a || b) ≡ false → b ≡ false
or_right true b neither = absurd (grind arith)
or_right false b neither = neither

printing_is_safe : (xs : List ℕ) → AllPrint xs → AreSafe xs
unfolding AllPrint AreSafe
printing_is_safe [] all = (refl, refl)
printing_is_safe (x ∷ xs) all =
    let p = printable_parts x (and_left (is_printable x) (list_all is_printable xs) all) in
    one_more_is_safe x xs p.0 p.1 (printing_is_safe xs (and_right (is_printable x) (list_all is_printable xs) all))

safe_append : (xs ys : List ℕ) → AreSafe xs → AreSafe ys → AreSafe (xs ++ ys)
unfolding AreSafe
safe_append [] ys one other = other
safe_append (x ∷ xs) ys one other = one_more_is_safe x (xs ++ ys)
    (or_left (is_raw x) (list_any is_raw xs) one.0) (and_left (scalar x) (scalars xs) one.1)
    (safe_append xs ys (or_right (is_raw x) (list_any is_raw xs) one.0, and_right (scalar x) (scalars xs) one.1) other)

shown_if : (c : ℕ) (b : Bool) → is_raw c ≡ b → scalar c ≡ true → AreSafe (cond b (escape_default c) (c ∷ []))
shown_if c true raw is_scalar = printing_is_safe (escape_default c) (escape_prints c raw)
shown_if c false raw is_scalar = one_more_is_safe c [] raw is_scalar (printing_is_safe [] none_print)

all_shown : (cs : List ℕ) → scalars cs ≡ true → AreSafe (flat_map shown_char cs)
all_shown [] is = printing_is_safe [] none_print
all_shown (c ∷ cs) is = safe_append (shown_char c) (flat_map shown_char cs)
    (shown_if c (is_raw c) refl (and_left (scalar c) (scalars cs) is)) (all_shown cs (and_right (scalar c) (scalars cs) is))

-- The characters that are shown.
pub shown_characters : (text : List ℕ) → IsUtf8 text → list_any is_raw (flat_map shown_char (chars text)) ≡ false
unfolding AreSafe
shown_characters text is = (all_shown (chars text) (scalars-chars text is)).0

pub safe : (text : List ℕ) → IsUtf8 text → has_raw (visible text) ≡ false
unfolding visible AreSafe
safe text is =
    let shown = all_shown (chars text) (scalars-chars text is) in
    ap (list_any is_raw) (chars-encodes (flat_map shown_char (chars text)) shown.1) ∙ shown.0

ascii_encodes : (bs : List ℕ) → list_all is_printable bs ≡ true → encode_utf8_all bs ≡ bs
ascii_encodes [] all = refl
ascii_encodes (b ∷ bs) all =
    let first : is_printable b ≡ true = and_left (is_printable b) (list_all is_printable bs) all in
    ap (λ t. t ++ encode_utf8_all bs) (encode_ascii b (grind (arith, first)))
    ∙ ap (λ t. b ∷ t) (ascii_encodes bs (and_right (is_printable b) (list_all is_printable bs) all))

-- A text whose bytes are characters that print has no other character.
pub printing_is_plain : (bs : List ℕ) → IsUtf8 bs → list_all is_printable bs ≡ true → has_raw bs ≡ false
unfolding AllPrint AreSafe
printing_is_plain bs is all =
    ap (list_any is_raw) (sym (chars_from_encodes bs bs is (ascii_encodes bs all))) ∙ (printing_is_safe bs all).0

plain_is_same : (cs : List ℕ) → list_any is_raw cs ≡ false → flat_map shown_char cs ≡ cs
plain_is_same [] none = refl
plain_is_same (c ∷ cs) none =
    ap (λ b. cond b (escape_default c) (c ∷ []) ++ flat_map shown_char cs) (or_left (is_raw c) (list_any is_raw cs) none)
    ∙ ap (λ xs. c ∷ xs) (plain_is_same cs (or_right (is_raw c) (list_any is_raw cs) none))

pub same : (text : List ℕ) → IsUtf8 text → has_raw text ≡ false → visible text ≡ text
unfolding visible
same text is none = ap encode_utf8_all (plain_is_same (chars text) none) ∙ encodes-chars text is

-- All characters were read.
pub all_read : (b ys rest text shown : List ℕ) → IsUtf8 text → encode_utf8_all ys ++ rest ≡ text → length rest ≡ 0
    → shown ≡ b ++ encode_utf8_all (flat_map shown_char ys) → shown ≡ b ++ visible text
unfolding visible
all_read b ys [] text shown is left end written =
    written ∙ ap (λ cs. b ++ encode_utf8_all (flat_map shown_char cs)) (chars_from_encodes ys text is (grind (arith, common_steps, left)))
all_read b ys (x ∷ rest) text shown is left end written = absurd (grind arith)
