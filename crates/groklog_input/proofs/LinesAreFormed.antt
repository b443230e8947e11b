-- The functions that take a prefix or a suffix off a text return what the definitions say, a text that is UTF-8 is read
-- as it is, and each line is read with the right count of lines before it.
use Rattle.std.proofs.Common.{◌≡◌, ℕ, ◌+◌, ◌≤◌, ◌==◌, length, List, [], ◌∷◌, ◌++◌, Bool, true, false, Option, Some, None, MatchOption, if◌then◌else◌, refl, sym, ap, ◌∙◌, arith}
use denote.Ref.{Bor}
use Rattle.std.specs.Option.{unwrap_or}
use Rattle.std.specs.Str.{IsUtf8, is_utf8}
use Rattle.std.specs.Str.Lossy.{utf8_lossy}
use Rattle.std.specs.Str.Pattern.{FindsTextPrefix, FindsTextSuffix, StripsPrefix, StripsSuffix}
use Rattle.std.proofs.lemmas.Str.{utf8_lossy-IsUtf8, is_utf8-from_IsUtf8}
use Rattle.std.proofs.lemmas.Str.Pattern.{starts_text, ends_text}
use Rattle.grok_lines.specs.Streams.{GoesOn}
use Rattle.groklog_input.specs.LineForms.{without_prefix, without_suffix, trimmed, formed, formed_lines}
use Rattle.groklog_input.specs.declared.line_form.LineForm.{LineForm}
use Rattle.groklog_input.specs.declared.formed_answers.FormedAnswers.{FormedAnswers}

pub prefix_is_taken_off : (part text : List ℕ) (found : Option (Bor (List ℕ))) (whole : Bor (List ℕ)) → whole.now ≡ text
    → MatchOption found (FindsTextPrefix part text None) (λ rest. StripsPrefix (FindsTextPrefix part) text rest.now)
    → (unwrap_or found whole).now ≡ without_prefix part text
prefix_is_taken_off part text None whole is h = rw (sym (starts_text false part text h)) is
prefix_is_taken_off part text (Some rest) whole is h =
    rw (sym (starts_text true part text (h.0, h.1, rw h.1.0 h.1.2))) (rw (sym h.1.0) h.2)

pub suffix_is_taken_off : (part text : List ℕ) (found : Option (Bor (List ℕ))) (whole : Bor (List ℕ)) → whole.now ≡ text
    → MatchOption found (FindsTextSuffix part text None) (λ rest. StripsSuffix (FindsTextSuffix part) text rest.now)
    → (unwrap_or found whole).now ≡ without_suffix part text
suffix_is_taken_off part text None whole is h = rw (sym (ends_text false part text h)) is
suffix_is_taken_off part text (Some rest) whole is h =
    let within : h.0 ≤ length text = omega (arith, h.3) in
    rw (sym (ends_text true part text (h.0, h.1, within, rw h.1.0 h.1.2))) (rw (sym h.1.0) h.2)

pub text_is_utf8 : (line : List ℕ) → IsUtf8 line → is_utf8 line ≡ true
text_is_utf8 line utf8 = is_utf8-from_IsUtf8 line utf8

read_as_it_is : (is_lossy : Bool) (line : List ℕ) → IsUtf8 line → (if is_lossy then utf8_lossy line else line) ≡ line
read_as_it_is true line utf8 = utf8_lossy-IsUtf8 line utf8
read_as_it_is false line utf8 = refl

-- A line whose trimmed bytes are UTF-8 is read as these bytes, whether the form is lossy or not.
pub text_is_read_as_it_is : (form : LineForm) (n : ℕ) (line text : List ℕ) → text ≡ trimmed form (n == 0) line → IsUtf8 text
    → formed form n line ≡ text
text_is_read_as_it_is form n line text is utf8 =
    ap (λ text. if form.is_lossy then utf8_lossy text else text) (sym is) ∙ read_as_it_is form.is_lossy text utf8

-- ---- handlers of lines as they are read

-- the lines after this one have one line more before them
next_lines : (form later : LineForm) (count next : ℕ) (more : List (List ℕ)) → later ≡ form → next ≡ count + 1
    → formed_lines form (count + 1) more ≡ formed_lines later next more
next_lines form later count next more f e = ap (λ form. formed_lines form (count + 1) more) (sym f) ∙ ap (λ n. formed_lines later n more) (sym e)

same_lines : (form later : LineForm) (count next : ℕ) (more : List (List ℕ)) → later ≡ form → next ≡ count
    → formed_lines form count more ≡ formed_lines later next more
same_lines form later count next more f e = ap (λ form. formed_lines form count more) (sym f) ∙ ap (λ n. formed_lines later n more) (sym e)

pub goes_on_by_line : {A : Type 0} (E F : A → List (List ℕ) → List ℕ) (N : A → List (List ℕ) → A → Type 0) (old new : FormedAnswers A) (line : List ℕ)
    → GoesOn E F N old.answers (formed old.form old.line_count line ∷ []) new.answers → new.form ≡ old.form → new.line_count ≡ old.line_count + 1
    → GoesOn (λ lines more. E lines.answers (formed_lines lines.form lines.line_count more))
    (λ lines more. F lines.answers (formed_lines lines.form lines.line_count more))
    (λ lines more later. N lines.answers (formed_lines lines.form lines.line_count more) later.answers) old (line ∷ []) new
goes_on_by_line E F N old new line on form count =
    let next = λ (more : List (List ℕ)). next_lines old.form new.form old.line_count new.line_count more form count in
    let read = formed old.form old.line_count line in
    record {
      first = λ more. on.first (formed_lines old.form (old.line_count + 1) more) ∙ ap (λ lines. F old.answers (read ∷ []) ++ F new.answers lines) (next more);
      all = λ more. on.all (formed_lines old.form (old.line_count + 1) more) ∙ ap (λ lines. F old.answers (read ∷ []) ++ E new.answers lines) (next more);
      next = λ more later is. on.next (formed_lines old.form (old.line_count + 1) more) later.answers (rw (next more) is);
    }

pub goes_on_as_before : {A : Type 0} (E F : A → List (List ℕ) → List ℕ) (N : A → List (List ℕ) → A → Type 0) (old new : FormedAnswers A)
    → GoesOn E F N old.answers [] new.answers → new.form ≡ old.form → new.line_count ≡ old.line_count
    → GoesOn (λ lines more. E lines.answers (formed_lines lines.form lines.line_count more))
    (λ lines more. F lines.answers (formed_lines lines.form lines.line_count more))
    (λ lines more later. N lines.answers (formed_lines lines.form lines.line_count more) later.answers) old [] new
goes_on_as_before E F N old new on form count =
    let same = λ (more : List (List ℕ)). same_lines old.form new.form old.line_count new.line_count more form count in
    record {
      first = λ more. on.first (formed_lines old.form old.line_count more) ∙ ap (λ lines. F old.answers [] ++ F new.answers lines) (same more);
      all = λ more. on.all (formed_lines old.form old.line_count more) ∙ ap (λ lines. F old.answers [] ++ E new.answers lines) (same more);
      next = λ more later is. on.next (formed_lines old.form old.line_count more) later.answers (rw (same more) is);
    }
