-- What a reader of HTML sees of escaped texts and of runs are the texts that are shown.
use Rattle.std.proofs.Common.{◌≡◌, ℕ, ◌+◌, ◌%◌, Bool, true, false, cond, ◌==◌, ◌||◌, Option, None, Some, List, [], ◌∷◌, ◌++◌, flat_map, refl, sym, ap, ◌∙◌, append_assoc, arith, string_bytes, codes}
use Rattle.std.proofs.lemmas.Bool.{eqb-true}
use Rattle.std.proofs.lemmas.Grind.{flat_map-append}
use Rattle.std.proofs.lemmas.List.{append-nil}
use Rattle.std.specs.Char.{encode_utf8}
use Rattle.groklog_reports.specs.Visible.{visible}
use Rattle.marked_lines.specs.Colours.{colour_digit, digit_of_rest}
use Rattle.marked_lines.specs.Html.{InText, InTag, InReference, escaped, escaped_byte, is_markup, has_markup, html_text, marked_html, run_html, title_at}
use Rattle.marked_lines.specs.Runs.{runs_text}
use Rattle.marked_lines.specs.declared.runs.Run.{Run}
use Rattle.marked_lines.proofs.ShownTexts.{runs_shown}
use Rattle.std.specs.Str.{encode_utf8_all}
use Rattle.marked_lines.proofs.RunsOfLines.{encodes-push}
use lib.Utf8.{encode, next}

-- A reader sees the byte that a reference means.
ampersand_seen : (rest : List ℕ) → html_text InText (codes "&amp;" ++ rest) ≡ 38 ∷ html_text InText rest
unfolding html_text
ampersand_seen rest = refl

less_seen : (rest : List ℕ) → html_text InText (codes "&lt;" ++ rest) ≡ 60 ∷ html_text InText rest
unfolding html_text
less_seen rest = refl

greater_seen : (rest : List ℕ) → html_text InText (codes "&gt;" ++ rest) ≡ 62 ∷ html_text InText rest
unfolding html_text
greater_seen rest = refl

quote_seen : (rest : List ℕ) → html_text InText (codes "&quot;" ++ rest) ≡ 34 ∷ html_text InText rest
unfolding html_text
quote_seen rest = refl

apostrophe_seen : (rest : List ℕ) → html_text InText (codes "&#39;" ++ rest) ≡ 39 ∷ html_text InText rest
unfolding html_text
apostrophe_seen rest = refl

-- A byte that begins neither a tag nor a reference is seen as it is.
plain_seen : (b : ℕ) (lt amp : Bool) (rest : List ℕ) → lt ≡ false → amp ≡ false
    → cond (lt || amp) [] (b ∷ []) ++ html_text (cond lt InTag (cond amp (InReference []) InText)) rest ≡ b ∷ html_text InText rest
plain_seen b true amp rest one other = grind (arith, one)
plain_seen b false true rest one other = grind (arith, other)
plain_seen b false false rest one other = refl

byte_is : (b n : ℕ) → (b == n) ≡ true → b ≡ n
byte_is b n is = eqb-true b n is

-- Each byte is seen, however it is escaped.
seen_if : (b : ℕ) (amp lt gt quot apos : Bool) (rest : List ℕ) → (b == 38) ≡ amp → (b == 60) ≡ lt → (b == 62) ≡ gt
    → (b == 34) ≡ quot → (b == 39) ≡ apos
    → html_text InText (cond amp (codes "&amp;") (cond lt (codes "&lt;") (cond gt (codes "&gt;") (cond quot (codes "&quot;") (cond apos (codes "&#39;") (b ∷ []))))) ++ rest)
    ≡ b ∷ html_text InText rest
unfolding html_text
seen_if b true lt gt quot apos rest a l g q p = ampersand_seen rest ∙ ap (λ n. n ∷ html_text InText rest) (sym (byte_is b 38 a))
seen_if b false true gt quot apos rest a l g q p = less_seen rest ∙ ap (λ n. n ∷ html_text InText rest) (sym (byte_is b 60 l))
seen_if b false false true quot apos rest a l g q p = greater_seen rest ∙ ap (λ n. n ∷ html_text InText rest) (sym (byte_is b 62 g))
seen_if b false false false true apos rest a l g q p = quote_seen rest ∙ ap (λ n. n ∷ html_text InText rest) (sym (byte_is b 34 q))
seen_if b false false false false true rest a l g q p = apostrophe_seen rest ∙ ap (λ n. n ∷ html_text InText rest) (sym (byte_is b 39 p))
seen_if b false false false false false rest a l g q p = plain_seen b (b == 60) (b == 38) rest l a

byte_seen : (b : ℕ) (rest : List ℕ) → html_text InText (escaped_byte b ++ rest) ≡ b ∷ html_text InText rest
byte_seen b rest = seen_if b (b == 38) (b == 60) (b == 62) (b == 34) (b == 39) rest refl refl refl refl refl

-- A reader sees the text that was escaped.
text_then : (xs rest : List ℕ) → html_text InText (escaped xs ++ rest) ≡ xs ++ html_text InText rest
text_then [] rest = refl
text_then (x ∷ xs) rest = ap (html_text InText) (append_assoc (escaped_byte x) (escaped xs) rest)
    ∙ (byte_seen x (escaped xs ++ rest) ∙ ap (λ t. x ∷ t) (text_then xs rest))

html_text-nil : html_text InText [] ≡ []
unfolding html_text
html_text-nil = refl

pub text_seen : (text : List ℕ) → html_text InText (escaped text) ≡ text
text_seen text = ap (html_text InText) (sym (append-nil (escaped text)))
    ∙ (text_then text [] ∙ (ap (λ t. text ++ t) html_text-nil ∙ append-nil text))

-- No byte of an escaped text is markup.
or_left : (a b : Bool) → (a || b) ≡ false → a ≡ false
or_left true b neither = neither
or_left false b neither = refl

or_right : (a b : Bool) → (a || b) ≡ false → b ≡ false
or_right true b neither = grind arith
or_right false b neither = neither

no_markup_if : (b : ℕ) (amp lt gt quot apos : Bool) → (b == 60) ≡ lt → (b == 62) ≡ gt → (b == 34) ≡ quot → (b == 39) ≡ apos
    → has_markup (cond amp (codes "&amp;") (cond lt (codes "&lt;") (cond gt (codes "&gt;") (cond quot (codes "&quot;") (cond apos (codes "&#39;") (b ∷ [])))))) ≡ false
no_markup_if b true lt gt quot apos l g q p = refl
no_markup_if b false true gt quot apos l g q p = refl
no_markup_if b false false true quot apos l g q p = refl
no_markup_if b false false false true apos l g q p = refl
no_markup_if b false false false false true l g q p = refl
no_markup_if b false false false false false l g q p = grind (arith, l, g, q, p)

no_markup_append : (xs ys : List ℕ) → has_markup xs ≡ false → has_markup ys ≡ false → has_markup (xs ++ ys) ≡ false
no_markup_append [] ys one other = other
no_markup_append (x ∷ xs) ys one other = ap (λ b. b || has_markup (xs ++ ys)) (or_left (is_markup x) (has_markup xs) one)
    ∙ no_markup_append xs ys (or_right (is_markup x) (has_markup xs) one) other

pub no_markup : (text : List ℕ) → has_markup (escaped text) ≡ false
no_markup [] = refl
no_markup (x ∷ xs) = no_markup_append (escaped_byte x) (escaped xs)
    (no_markup_if x (x == 38) (x == 60) (x == 62) (x == 34) (x == 39) refl refl refl refl) (no_markup xs)

-- Nothing is seen of a tag, whose bytes before its end have no >.
tag_byte : (end : Bool) (rest : List ℕ) → end ≡ false → html_text (cond end InText InTag) rest ≡ html_text InTag rest
tag_byte true rest is = grind (arith, is)
tag_byte false rest is = refl

markup_is_end : (x : ℕ) → is_markup x ≡ false → (x == 62) ≡ false
markup_is_end x none = grind arith

tag_then : (xs rest : List ℕ) → has_markup xs ≡ false → html_text InTag (xs ++ rest) ≡ html_text InTag rest
unfolding html_text
tag_then [] rest none = refl
tag_then (x ∷ xs) rest none = tag_byte (x == 62) (xs ++ rest) (markup_is_end x (or_left (is_markup x) (has_markup xs) none))
    ∙ tag_then xs rest (or_right (is_markup x) (has_markup xs) none)

digit_goes_on : (rest : ℕ) → (digit_of_rest rest == 62) ≡ false
digit_goes_on rest = grind arith

-- The beginning of a span, up to its title.
span_begins : (key : ℕ) (rest : List ℕ) → html_text InText (codes "<span class=\"c" ++ (colour_digit key ∷ (codes "\" title=\"" ++ rest))) ≡ html_text InTag rest
unfolding html_text
span_begins key rest = tag_byte (colour_digit key == 62) (codes "\" title=\"" ++ rest) (digit_goes_on (key % 6))

title_ends : (rest : List ℕ) → html_text InTag (codes "\">" ++ rest) ≡ html_text InText rest
unfolding html_text
title_ends rest = refl

span_ends : (rest : List ℕ) → html_text InText (codes "</span>" ++ rest) ≡ html_text InText rest
unfolding html_text
span_ends rest = refl

-- Of a run its text is seen.
run_then : (titles : List (List ℕ)) (key : Option ℕ) (text rest : List ℕ)
    → html_text InText (marked_html titles key (escaped text) ++ rest) ≡ text ++ html_text InText rest
run_then titles None text rest = text_then text rest
run_then titles (Some key) text rest =
    let title : List ℕ = escaped (visible (title_at titles key)) in
    let regrouped : marked_html titles (Some key) (escaped text) ++ rest
    ≡ codes "<span class=\"c" ++ (colour_digit key ∷ (codes "\" title=\"" ++ (title ++ (codes "\">" ++ (escaped text ++ (codes "</span>" ++ rest)))))) = simp append_assoc in
    ap (html_text InText) regrouped
    ∙ (span_begins key (title ++ (codes "\">" ++ (escaped text ++ (codes "</span>" ++ rest))))
    ∙ (tag_then title (codes "\">" ++ (escaped text ++ (codes "</span>" ++ rest))) (no_markup (visible (title_at titles key)))
    ∙ (title_ends (escaped text ++ (codes "</span>" ++ rest))
    ∙ (text_then text (codes "</span>" ++ rest) ∙ ap (λ t. text ++ t) (span_ends rest)))))

all_seen : (titles : List (List ℕ)) (runs : List Run)
    → html_text InText (flat_map (run_html titles) runs) ≡ flat_map (λ run. visible (string_bytes run.text)) runs
all_seen titles [] = html_text-nil
all_seen titles (run ∷ runs) = run_then titles run.key (visible (string_bytes run.text)) (flat_map (run_html titles) runs)
    ∙ ap (λ t. visible (string_bytes run.text) ++ t) (all_seen titles runs)

-- Of runs the text is seen that is shown of theirs.
pub runs_seen : (titles : List (List ℕ)) (runs : List Run) → html_text InText (flat_map (run_html titles) runs) ≡ visible (runs_text runs)
runs_seen titles runs = all_seen titles runs ∙ runs_shown runs

-- Bytes from 128 on stay as they are, so only the five characters become references.
kept_if : (b : Bool) (xs ys : List ℕ) → escaped xs ≡ xs → escaped ys ≡ ys → escaped (cond b xs ys) ≡ cond b xs ys
kept_if true xs ys one other = one
kept_if false xs ys one other = other

byte_kept : (b : ℕ) (bs : List ℕ) → escaped_byte b ≡ b ∷ [] → escaped bs ≡ bs → escaped (b ∷ bs) ≡ b ∷ bs
byte_kept b bs first others = ap (λ t. t ++ escaped bs) first ∙ ap (λ t. b ∷ t) others

second_kept : (n : ℕ) → escaped_byte (192 + n) ≡ (192 + n) ∷ []
second_kept n = grind arith

third_kept : (n : ℕ) → escaped_byte (224 + n) ≡ (224 + n) ∷ []
third_kept n = grind arith

fourth_kept : (n : ℕ) → escaped_byte (240 + n) ≡ (240 + n) ∷ []
fourth_kept n = grind arith

next_kept : (c : ℕ) → escaped_byte (next c) ≡ next c ∷ []
next_kept c = grind arith

pub plain_char : (c : ℕ) → escaped_byte c ≡ c ∷ [] → escaped (encode_utf8 c) ≡ encode_utf8 c
unfolding encode
plain_char c plain = search (kept_if, byte_kept, plain, second_kept, third_kept, fourth_kept, next_kept) depth 14

-- Five texts were appended, one after the other.
pub five_pushed : (s a b c d e s₁ s₂ s₃ s₄ s₅ : List ℕ) → s₁ ≡ s ++ a → s₂ ≡ s₁ ++ b → s₃ ≡ s₂ ++ c → s₄ ≡ s₃ ++ d → s₅ ≡ s₄ ++ e
    → s₅ ≡ s ++ (a ++ (b ++ (c ++ (d ++ e))))
five_pushed s a b c d e s₁ s₂ s₃ s₄ s₅ one two three four five =
    five ∙ (ap (λ t. t ++ e) (four ∙ ap (λ t. t ++ d) (three ∙ ap (λ t. t ++ c) (two ∙ ap (λ t. t ++ b) one)))
    ∙ simp append_assoc)

-- Three texts were appended.
pub three_pushed : (s a b c s₁ s₂ s₃ : List ℕ) → s₁ ≡ s ++ a → s₂ ≡ s₁ ++ b → s₃ ≡ s₂ ++ c → s₃ ≡ s ++ (a ++ (b ++ c))
three_pushed s a b c s₁ s₂ s₃ one two three = three ∙ (ap (λ t. t ++ c) (two ∙ ap (λ t. t ++ b) one) ∙ simp append_assoc)

-- One more character is escaped after those before it.
pub escaped_more : (cs : List ℕ) (c : ℕ) (old start new : List ℕ) → new ≡ old ++ escaped (encode_utf8 c)
    → old ≡ start ++ escaped (encode_utf8_all cs) → new ≡ start ++ escaped (encode_utf8_all (cs ++ c ∷ []))
escaped_more cs c old start new is before =
    let more : escaped (encode_utf8_all (cs ++ c ∷ [])) ≡ escaped (encode_utf8_all cs) ++ escaped (encode_utf8 c)
    = ap escaped (encodes-push cs c) ∙ flat_map-append escaped_byte (encode_utf8_all cs) (encode_utf8 c) in
    is ∙ (ap (λ t. t ++ escaped (encode_utf8 c)) before
    ∙ (append_assoc start (escaped (encode_utf8_all cs)) (escaped (encode_utf8 c)) ∙ ap (λ t. start ++ t) (sym more)))
