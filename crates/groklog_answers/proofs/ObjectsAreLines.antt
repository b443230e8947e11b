-- The JSON object of a line of a log is itself one line.
use Rattle.std.proofs.Common.{◌≡◌, ◌⊎◌, inl, inr, ℕ, zero, suc, ◌<◌, ◌≤◌, not, ◌&&◌, subst, Bool, true, false, ◌==◌, cond, List, [], ◌∷◌, ◌++◌, Err, if◌then◌else◌, codes, refl, sym, arith}
use Rattle.std.proofs.lemmas.Bool.{cases_eq, cases_lt}
use Rattle.std.proofs.lemmas.Bool.Decides.{nat_tests}
use Rattle.std.specs.Option.{ok_or}
use Rattle.std.specs.Str.{is_utf8}
use Rattle.std.specs.Str.Lossy.{utf8_lossy}
use Rattle.json.specs.Token.{Token, begin_object, end_object, begin_array, end_array, key, string, number, boolean, null, bad}
use Rattle.json.specs.Json.{object}
use Rattle.json.specs.Tree.{MembersHaveNumbers}
use Rattle.json.specs.Print.{escape_byte, escape, quoted, token_text, separator, begins, ends, print_from, IsPrintable, ArePrintable}
use Rattle.json.proofs.Printed.Strings.{escape_byte_plain}
use Rattle.json.proofs.Printed.Trees.{ArePrintable-json_tokens}
use Rattle.grok_lines.specs.Lines.{IsLine}
use Rattle.grok_lines.proofs.LinesOfTwoParts.{line-append}
use Rattle.groklog_answers.specs.Patterns.{first_match}
use Rattle.groklog_answers.specs.AnsweredTexts.{AnsweredText, line_of}
use Rattle.groklog_answers.specs.Objects.{KeyValues, members_of, answer_members, object_text}
use Rattle.groklog_answers.specs.LogAnswers.{is_answered, answer_text, answer_to}
use Rattle.groklog_answers.specs.AnswerLaws.{ObjectsAreLines}
use Rattle.groklog_answers.specs.declared.layout.Failure.TheVariants.{NoMatch, NotUtf8}
use Rattle.groklog_answers.specs.declared.layout.OutputFormat.{OutputFormat}
use Rattle.groklog_answers.specs.declared.layout.OutputFormat.TheVariants.{Json, Pairs, Csv}
use Rattle.groklog_answers.proofs.NumbersHoldNoLineFeed.{number_is_line}
use Rattle.groklog_answers.proofs.ObjectsReadBack.{answer_has_numbers}

-- ---- the escape of a byte

abbrev has_no_feed : List ℕ → Bool
has_no_feed [] = true
has_no_feed (x ∷ xs) = not (x == 10) && has_no_feed xs

both : (a b : Bool) → (not a && b) ≡ true → (a ≡ false) × (b ≡ true)
both true b h = cc
both false b h = (refl, h)

line_by_test : (xs : List ℕ) → has_no_feed xs ≡ true → IsLine xs
line_by_test [] h = tt
line_by_test (x ∷ xs) h = let parts = both (x == 10) (has_no_feed xs) h in (parts.0, line_by_test xs parts.1)

-- The escape of each byte below n has no line feed. The bytes are tried from n - 1 down.
abbrev Each : ℕ → Type 0
Each zero = Unit {0}
Each (suc n) = (has_no_feed (escape_byte n) ≡ true) × Each n

each : (n : ℕ) → Each n → (x : ℕ) → x < n → has_no_feed (escape_byte x) ≡ true
each zero h x lt = absurd (omega arith)
each (suc n) h x lt = go (each n h.1 x) (cases_eq x n)
  where
    go : (x < n → has_no_feed (escape_byte x) ≡ true) → (x ≡ n) ⊎ (x ≡ n → ⊥) → has_no_feed (escape_byte x) ≡ true
    go below (inl e) = subst (λ y. has_no_feed (escape_byte y) ≡ true) (sym e) h.0
    go below (inr ne) = below (omega arith)

controls : Each 32
unfolding escape_byte
controls = (refl, (refl, (refl, (refl, (refl, (refl, (refl, (refl, (refl, (refl, (refl, (refl, (refl, (refl, (refl, (refl, (refl, (refl, (refl, (refl, (refl, (refl, (refl, (refl, (refl, (refl, (refl, (refl, (refl, (refl, (refl, (refl, tt))))))))))))))))))))))))))))))))

quote_line : has_no_feed (escape_byte 34) ≡ true
unfolding escape_byte
quote_line = refl

backslash_line : has_no_feed (escape_byte 92) ≡ true
unfolding escape_byte
backslash_line = refl

shown_line : (x : ℕ) → 32 ≤ x → (x ≡ 34) ⊎ (x ≡ 34 → ⊥) → (x ≡ 92) ⊎ (x ≡ 92 → ⊥) → IsLine (escape_byte x)
shown_line x large (inl e) other = line_by_test _ (subst (λ y. has_no_feed (escape_byte y) ≡ true) (sym e) quote_line)
shown_line x large (inr q) (inl e) = line_by_test _ (subst (λ y. has_no_feed (escape_byte y) ≡ true) (sym e) backslash_line)
shown_line x large (inr q) (inr b) = rw (escape_byte_plain x q b large) (no_feed x large, tt)
  where
    no_feed : (y : ℕ) → 32 ≤ y → (y == 10) ≡ false
    no_feed y h = grind (arith, nat_tests)

byte_line : (x : ℕ) → (x < 32) ⊎ (32 ≤ x) → IsLine (escape_byte x)
byte_line x (inl small) = line_by_test _ (each 32 controls x small)
byte_line x (inr large) = shown_line x large (cases_eq x 34) (cases_eq x 92)

escape_line : (s : List ℕ) → IsLine (escape s)
escape_line [] = tt
escape_line (x ∷ xs) = line-append (escape_byte x) (escape xs) (byte_line x (cases_lt x 32)) (escape_line xs)

-- ---- the text of tokens

quoted_line : (s : List ℕ) → IsLine (quoted s)
quoted_line s = (refl, line-append (escape s) (34 ∷ []) (escape_line s) (refl, tt))

token_line : (t : Token) → IsPrintable t → IsLine (token_text t)
token_line begin_object is = (refl, tt)
token_line end_object is = (refl, tt)
token_line begin_array is = (refl, tt)
token_line end_array is = (refl, tt)
token_line (key s) is = line-append (quoted s) (58 ∷ []) (quoted_line s) (refl, tt)
token_line (string s) is = quoted_line s
token_line (number s) is = number_is_line s is
token_line (boolean true) is = (refl, (refl, (refl, (refl, tt))))
token_line (boolean false) is = (refl, (refl, (refl, (refl, (refl, tt)))))
token_line null is = (refl, (refl, (refl, (refl, tt))))
token_line bad is = tt

comma_line : (b : Bool) → IsLine (cond b (44 ∷ []) [])
comma_line true = (refl, tt)
comma_line false = tt

printed_line : (after_value : Bool) (ts : List Token) → ArePrintable ts → IsLine (print_from after_value ts)
unfolding print_from ArePrintable
printed_line after_value [] are = tt
printed_line after_value (t ∷ ts) are =
    line-append (separator after_value t) _ (comma_line (after_value && begins t))
    (line-append (token_text t) _ (token_line t are.0) (printed_line (ends t) ts are.1))

object_line : (members : KeyValues) → MembersHaveNumbers (members_of members) → IsLine (object_text members)
object_line members numbers =
    printed_line false _ (ArePrintable-json_tokens (object (members_of members)) numbers)

-- ---- answers

abbrev IsLineOrNone : List ℕ → Type 0
IsLineOrNone answer = (answer ≡ []) ⊎ ((object : List ℕ) × IsLine object × (answer ≡ object ++ codes "\n"))

either_way : (b : Bool) (x y : List ℕ) → IsLineOrNone x → IsLineOrNone y → IsLineOrNone (if b then x else y)
either_way true x y h k = h
either_way false x y h k = k

text_lines_up : (format : OutputFormat) (line : AnsweredText) → format ≡ Json → IsLineOrNone (answer_text format line)
text_lines_up Json line is = inr (object_text (answer_members line), object_line _ (answer_has_numbers line), refl)
text_lines_up Pairs line is = cc
text_lines_up Csv line is = cc

answer_lines_up : (line : AnsweredText) → line.layout.format ≡ Json → IsLineOrNone (answer_to line)
answer_lines_up line is =
    either_way (is_answered line.layout.lines line.found) (answer_text line.layout.format line) []
    (text_lines_up line.layout.format line is) (inl refl)

pub objects_are_lines : ObjectsAreLines
objects_are_lines layout patterns n line is =
    either_way (is_utf8 line) _ _ (answer_lines_up (line_of layout (ok_or (first_match patterns line) NoMatch) n line) is)
    (answer_lines_up (line_of layout (Err NotUtf8) n (utf8_lossy line)) is)
