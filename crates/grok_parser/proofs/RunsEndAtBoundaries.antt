-- A run of word bytes, or of bytes before a `%` or a brace, ends at a character boundary.
use Rattle.std.proofs.Common.{◌≡◌, ℕ, suc, zero, ◌+◌, ◌-◌, ◌<◌, ◌≤◌, Bool, true, false, List, length, get_or, drop, sym, subst, arith, add-one, zero-add, ⊎_elim, length-drop, get_or-drop}
use Rattle.std.specs.List.{prefix_len, position_or_len}
use Rattle.std.specs.Str.{IsUtf8, IsCharBoundary}
use Rattle.std.proofs.lemmas.List.Sums.{prefix_len-le-length, prefix_len_passes, passes_at_first}
use Rattle.std.proofs.lemmas.Str.{IsCharBoundary-start, IsCharBoundary-end, IsCharBoundary-after_ascii, IsCharBoundary-before_ascii}
use Rattle.std.proofs.lemmas.Bool.{cases_lt}
use Rattle.std.proofs.lemmas.Bool.Decides.{nat_tests}
use Rattle.grok_parser.specs.Pieces.{is_word_byte, is_percent, is_brace}

pub word_byte_ascii : (is_name : Bool) (b : ℕ) → is_word_byte is_name b ≡ true → b < 128
word_byte_ascii true b e = grind (arith, nat_tests)
word_byte_ascii false b e = grind (arith, nat_tests)

pub IsCharBoundary-after_run : (bs : List ℕ) (n : ℕ) → IsUtf8 bs → n ≤ length bs → ((k : ℕ) → k < n → get_or bs k 0 < 128) → IsCharBoundary bs n
IsCharBoundary-after_run bs zero u le h = IsCharBoundary-start bs u
IsCharBoundary-after_run bs (suc k) u le h = rw (← add-one) (IsCharBoundary-after_ascii bs k u (omega arith) (h k (omega arith)))

pub IsCharBoundary-word : (is_name : Bool) (bs : List ℕ) → IsUtf8 bs → IsCharBoundary bs (prefix_len (is_word_byte is_name) bs)
IsCharBoundary-word is_name bs u =
    IsCharBoundary-after_run bs _ u (prefix_len-le-length (is_word_byte is_name) bs) (λ k l. word_byte_ascii is_name _ (prefix_len_passes (is_word_byte is_name) bs k 0 l))

pub position_or_len-le : (p : ℕ → Bool) (bs : List ℕ) → position_or_len p bs ≤ length bs
position_or_len-le p bs = prefix_len-le-length _ bs

-- from position i on, the first byte that passes a test that only ASCII bytes pass
pub IsCharBoundary-first : (p : ℕ → Bool) (ascii : (b : ℕ) → p b ≡ true → b < 128) (bs : List ℕ) (i : ℕ) → i ≤ length bs → IsCharBoundary bs (i + position_or_len p (drop i bs))
IsCharBoundary-first p ascii bs i h =
    let n = position_or_len p (drop i bs) in
    let le : n ≤ length (drop i bs) = position_or_len-le p (drop i bs) in
    let len : length (drop i bs) ≡ length bs - i = length-drop i bs in
    ⊎_elim (λ l. IsCharBoundary-before_ascii bs (i + n) (omega arith) (rw (sym (get_or-drop i bs n 0)) (ascii _ (passes_at_first p (drop i bs) 0 l))))
    (λ l. let e : i + n ≡ length bs = omega arith in rw e (IsCharBoundary-end bs)) (cases_lt n (length (drop i bs)))

percent_ascii : (b : ℕ) → is_percent b ≡ true → b < 128
percent_ascii b e = grind (arith, nat_tests)

brace_ascii : (b : ℕ) → is_brace b ≡ true → b < 128
brace_ascii b e = grind (arith, nat_tests)

pub IsCharBoundary-percent : (bs : List ℕ) (i : ℕ) → i ≤ length bs → IsCharBoundary bs (i + position_or_len is_percent (drop i bs))
IsCharBoundary-percent = IsCharBoundary-first is_percent percent_ascii

pub IsCharBoundary-brace : (bs : List ℕ) → IsCharBoundary bs (position_or_len is_brace bs)
IsCharBoundary-brace bs = subst (λ (n : ℕ). IsCharBoundary bs n) (zero-add _) (IsCharBoundary-first is_brace brace_ascii bs 0 (omega arith))

pub ruleset boundaries = (IsCharBoundary-word, IsCharBoundary-percent, IsCharBoundary-brace, position_or_len-le)
