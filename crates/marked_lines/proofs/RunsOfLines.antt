-- Runs have the characters of a line, each with its key.
use Rattle.std.proofs.Common.{◌≡◌, ℕ, ◌+◌, ◌-◌, ◌≤◌, ◌<◌, false, cond, find, get_or, reverse, option_map, Option, Some, List, [], ◌∷◌, ◌++◌, length, take, drop, map, flat_map, refl, sym, ap, subst, ◌∙◌, append_assoc, arith}
use Rattle.std.proofs.Math.Seq.{take-add}
use Rattle.std.proofs.lemmas.List.{append-nil, drop-drop, map-append, map_more, reverse-append, take-append-drop, take_at}
use Rattle.std.proofs.lemmas.Str.{IsCharBoundary-start, IsCharBoundary-past_char, IsUtf8-drop, chars-nil, chars_past_char, drop_past_char, encodes-append, length-encode}
use Rattle.std.specs.Char.{encode_utf8, len_utf8}
use Rattle.std.specs.Str.{chars, encode_utf8_all, IsUtf8, IsCharBoundary}
use Rattle.marked_lines.specs.Runs.{has_byte, key_at, keyed_bytes, with_key, run_bytes}
use Rattle.marked_lines.specs.declared.runs.Field.{Field}
use Rattle.marked_lines.specs.declared.runs.Run.{Run}

-- The bytes of one more character.
pub encodes-push : (cs : List ℕ) (c : ℕ) → encode_utf8_all (cs ++ c ∷ []) ≡ encode_utf8_all cs ++ encode_utf8 c
encodes-push cs c = encodes-append cs (c ∷ []) ∙ ap (λ t. encode_utf8_all cs ++ t) (append-nil (encode_utf8 c))

-- The bytes of a line between two positions.
abbrev pub part : ℕ → ℕ → List ℕ → List ℕ
part start end line = take (end - start) (drop start line)

-- The bytes from a position on are those up to a later one, and those from there on.
from_start : (start at : ℕ) (line : List ℕ) → start ≤ at → drop (at - start) (drop start line) ≡ drop at line
from_start start at line order =
    let sum : start + (at - start) ≡ at = omega arith in
    drop-drop (at - start) start line ∙ ap (λ n. drop n line) sum

-- The bytes before a position, and those from there to a later one.
pub take_more : (start at : ℕ) (line : List ℕ) → start ≤ at → take start line ++ part start at line ≡ take at line
take_more start at line order =
    let sum : start + (at - start) ≡ at = omega arith in
    sym (take-add start (at - start) line) ∙ ap (λ n. take n line) sum

-- One more character is between the positions.
part_more : (start at c : ℕ) (line after : List ℕ) → start ≤ at → drop at line ≡ encode_utf8 c ++ after
    → part start (at + length (encode_utf8 c)) line ≡ part start at line ++ encode_utf8 c
part_more start at c line after order is =
    let count : ℕ = length (encode_utf8 c) in
    let sum : (at + count) - start ≡ (at - start) + count = omega arith in
    ap (λ n. take n (drop start line)) sum ∙ (take-add (at - start) count (drop start line)
    ∙ ap (λ t. part start at line ++ t)
    (ap (take count) (from_start start at line order ∙ is) ∙ take_at (encode_utf8 c) after count refl))

-- A character begins at a position of a line, or the line ends there, and this is what follows.
abbrev pub IsPlace : List ℕ → ℕ → List ℕ → Type 0
IsPlace line at rest = IsCharBoundary line at × (rest ≡ drop at line)

pub first_place : (line rest : List ℕ) (at : ℕ) → IsUtf8 line → at ≡ 0 → rest ≡ line → IsPlace line at rest
first_place line rest at is_text is left =
    (subst (IsCharBoundary line) (sym is) (IsCharBoundary-start line is_text), left ∙ ap (λ n. drop n line) (sym is))

-- The place after one more character.
pub next_place : (line rest after : List ℕ) (at next c : ℕ) → IsUtf8 line → IsPlace line at rest
    → rest ≡ encode_utf8 c ++ after → next ≡ at + length (encode_utf8 c) → IsPlace line next after
next_place line rest after at next c is_text place is further =
    let left : drop at line ≡ encode_utf8 c ++ after = sym place.1 ∙ is in
    let more : next ≡ at + len_utf8 c = further ∙ ap (λ n. at + n) (length-encode c) in (
      subst (IsCharBoundary line) (sym more) (IsCharBoundary-past_char line after at c place.0.0 (IsUtf8-drop line at is_text place.0) left),
      sym (drop_past_char line after at c left) ∙ ap (λ n. drop n line) (sym more),
    )

-- The runs, the bytes from `start` to `at` with this key, and those after them with theirs are the bytes of the line, each with
-- its key.
abbrev pub IsKeyed : List Field → List ℕ → List Run → Option ℕ → ℕ → ℕ → Type 0
IsKeyed fields line runs key start at = flat_map run_bytes runs
    ++ (with_key key (part start at line) ++ keyed_bytes fields at (chars (drop at line))) ≡ keyed_bytes fields 0 (chars line)

pub first_keys : (fields : List Field) (line : List ℕ) (runs : List Run) (key : Option ℕ) (at : ℕ) → runs ≡ [] → at ≡ 0
    → IsKeyed fields line runs key 0 at
first_keys fields line runs key at none is =
    ap (λ t. flat_map run_bytes t ++ (with_key key (part 0 at line) ++ keyed_bytes fields at (chars (drop at line)))) none
    ∙ ap (λ n. with_key key (part 0 n line) ++ keyed_bytes fields n (chars (drop n line))) is

-- One more character has the key.
pub same_key : (fields : List Field) (line rest after : List ℕ) (runs : List Run) (key : Option ℕ) (start at next c : ℕ) →
    IsUtf8 line → IsPlace line at rest → rest ≡ encode_utf8 c ++ after → next ≡ at + length (encode_utf8 c)
    → start ≤ at → key_at fields at ≡ key → IsKeyed fields line runs key start at → IsKeyed fields line runs key start next
same_key fields line rest after runs key start at next c is_text place is further order same before =
    let left : drop at line ≡ encode_utf8 c ++ after = sym place.1 ∙ is in
    let after_it : drop next line ≡ after = sym (next_place line rest after at next c is_text place is further).1 in
    let later : ℕ = at + length (encode_utf8 c) in
    let others : List (Option ℕ × ℕ) = keyed_bytes fields later (chars after) in
    let step : keyed_bytes fields at (chars (drop at line)) ≡ with_key key (encode_utf8 c) ++ others
    = ap (keyed_bytes fields at) (chars_past_char (drop at line) after c (IsUtf8-drop line at is_text place.0) left)
    ∙ ap (λ k. with_key k (encode_utf8 c) ++ others) same in
    let more : with_key key (part start later line) ≡ with_key key (part start at line) ++ with_key key (encode_utf8 c)
    = ap (with_key key) (part_more start at c line after order left)
    ∙ map-append (λ b. (key, b)) (part start at line) (encode_utf8 c) in
    ap (λ t. flat_map run_bytes runs ++ (with_key key (part start next line) ++ keyed_bytes fields next (chars t))) after_it
    ∙ (ap (λ n. flat_map run_bytes runs ++ (with_key key (part start n line) ++ keyed_bytes fields n (chars after))) further
    ∙ (ap (λ t. flat_map run_bytes runs ++ (t ++ others)) more
    ∙ (ap (λ t. flat_map run_bytes runs ++ t) (append_assoc (with_key key (part start at line)) (with_key key (encode_utf8 c)) others)
    ∙ (ap (λ t. flat_map run_bytes runs ++ (with_key key (part start at line) ++ t)) (sym step) ∙ before))))

-- The bytes up to `at` have become a run, and the next run has none yet.
pub next_run : (fields : List Field) (line : List ℕ) (runs more : List Run) (key next : Option ℕ) (start at : ℕ) →
    flat_map run_bytes more ≡ flat_map run_bytes runs ++ with_key key (part start at line)
    → IsKeyed fields line runs key start at → IsKeyed fields line more next at at
next_run fields line runs more key next start at is before =
    let others : List (Option ℕ × ℕ) = keyed_bytes fields at (chars (drop at line)) in
    let none : at - at ≡ 0 = omega arith in
    ap (λ n. flat_map run_bytes more ++ (with_key next (take n (drop at line)) ++ others)) none
    ∙ (ap (λ t. t ++ others) is
    ∙ (append_assoc (flat_map run_bytes runs) (with_key key (part start at line)) others ∙ before))

nothing : (xs : List ℕ) → length xs ≡ 0 → xs ≡ []
nothing [] none = refl
nothing (x ∷ xs) none = grind (arith, none)

-- At the end of the line the bytes from `start` on are the last run.
pub last_run : (fields : List Field) (line rest : List ℕ) (runs more : List Run) (key : Option ℕ) (start at : ℕ) →
    IsPlace line at rest → length rest ≡ 0 → start ≤ at
    → flat_map run_bytes more ≡ flat_map run_bytes runs ++ with_key key (drop start line)
    → IsKeyed fields line runs key start at → flat_map run_bytes more ≡ keyed_bytes fields 0 (chars line)
last_run fields line rest runs more key start at place end order is before =
    let none : drop at line ≡ [] = sym place.1 ∙ nothing rest end in
    let all : drop start line ≡ part start at line
    = sym (take-append-drop (at - start) (drop start line))
    ∙ (ap (λ t. part start at line ++ t) (from_start start at line order ∙ none) ∙ append-nil (part start at line)) in
    let keyed : keyed_bytes fields at (chars (drop at line)) ≡ [] = ap (λ t. keyed_bytes fields at (chars t)) none
    ∙ ap (keyed_bytes fields at) chars-nil in
    is ∙ (ap (λ t. flat_map run_bytes runs ++ with_key key t) all
    ∙ (ap (λ t. flat_map run_bytes runs ++ t) (sym (append-nil (with_key key (part start at line))))
    ∙ (ap (λ t. flat_map run_bytes runs ++ (with_key key (part start at line) ++ t)) (sym keyed) ∙ before)))

-- One more field has either both positions or neither of them.
pub fields_more : (fields : List Field) (d : Field) (i a b : ℕ) → i < length fields
    → map (has_byte a) (take i fields) ≡ map (has_byte b) (take i fields)
    → has_byte a (get_or fields i d) ≡ has_byte b (get_or fields i d)
    → map (has_byte a) (take (i + 1) fields) ≡ map (has_byte b) (take (i + 1) fields)
fields_more fields d i a b inside before one = map_more (has_byte a) fields i d inside
    ∙ (ap (λ t. t ++ has_byte a (get_or fields i d) ∷ []) before
    ∙ (ap (λ t. map (has_byte b) (take i fields) ++ t ∷ []) one ∙ sym (map_more (has_byte b) fields i d inside)))

-- Each field has either both positions or neither of them, so these have the same key.
find_same : (xs : List Field) (a b : ℕ) → map (has_byte a) xs ≡ map (has_byte b) xs → find (has_byte a) xs ≡ find (has_byte b) xs
find_same [] a b same = refl
find_same (x ∷ xs) a b same =
    ap (λ t. cond t (Some x) (find (has_byte a) xs)) (ap (λ t. get_or t 0 false) same)
    ∙ ap (λ t. cond (has_byte b x) (Some x) t) (find_same xs a b (ap (drop 1) same))

map-reverse : (xs : List Field) (p : ℕ) → map (has_byte p) (reverse xs) ≡ reverse (map (has_byte p) xs)
map-reverse [] p = refl
map-reverse (x ∷ xs) p = ap (map (has_byte p)) (reverse-append (x ∷ []) xs)
    ∙ (map-append (has_byte p) (reverse xs) (x ∷ [])
    ∙ (ap (λ t. t ++ has_byte p x ∷ []) (map-reverse xs p) ∙ sym (reverse-append (has_byte p x ∷ []) (map (has_byte p) xs))))

pub key_same : (fields : List Field) (a b : ℕ) → map (has_byte a) fields ≡ map (has_byte b) fields → key_at fields a ≡ key_at fields b
key_same fields a b same = ap (option_map (λ field. field.key)) (find_same (reverse fields) a b
    (map-reverse fields a ∙ (ap reverse same ∙ sym (map-reverse fields b))))
