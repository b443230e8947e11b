-- Without the codes of its colours, a coloured text is the text that is shown.
use Rattle.std.proofs.Common.{◌≡◌, ℕ, ◌%◌, Bool, true, false, cond, ◌==◌, ◌||◌, Option, None, Some, List, [], ◌∷◌, ◌++◌, flat_map, refl, ap, ◌∙◌, append_assoc, arith, string_bytes}
use Rattle.std.proofs.lemmas.Str.{IsUtf8-string_bytes}
use Rattle.std.specs.List.{list_any}
use Rattle.groklog_reports.specs.Visible.{visible}
use Rattle.marked_lines.specs.Colours.{colour_digit, colour_code, digit_of_rest}
use Rattle.marked_lines.specs.Coloured.{coloured, coloured_run, end_code, without_codes}
use Rattle.marked_lines.specs.Runs.{runs_text}
use Rattle.marked_lines.specs.declared.runs.Run.{Run}
use Rattle.marked_lines.proofs.ShownTexts.{is_escape, no_escape, runs_shown}

or_left : (a b : Bool) → (a || b) ≡ false → a ≡ false
or_left true b neither = neither
or_left false b neither = refl

or_right : (a b : Bool) → (a || b) ≡ false → b ≡ false
or_right true b neither = grind arith
or_right false b neither = neither

-- A byte that is no escape character is shown.
plain_byte : (b : ℕ) (e : Bool) (rest : List ℕ) → e ≡ false
    → cond e [] (b ∷ []) ++ without_codes e rest ≡ b ∷ without_codes false rest
plain_byte b true rest is = grind (arith, is)
plain_byte b false rest is = refl

-- A text without escape characters is shown as it is.
plain_text : (xs rest : List ℕ) → list_any is_escape xs ≡ false
    → without_codes false (xs ++ rest) ≡ xs ++ without_codes false rest
unfolding without_codes
plain_text [] rest none = refl
plain_text (x ∷ xs) rest none = plain_byte x (is_escape x) (xs ++ rest) (or_left (is_escape x) (list_any is_escape xs) none)
    ∙ ap (λ t. x ∷ t) (plain_text xs rest (or_right (is_escape x) (list_any is_escape xs) none))

-- The digit of a colour ends no code.
digit_goes_on : (rest : ℕ) → (digit_of_rest rest == 109) ≡ false
digit_goes_on rest = grind arith

digit_step : (d : Bool) (rest : List ℕ) → d ≡ false → without_codes (cond d false true) (109 ∷ rest) ≡ without_codes false rest
unfolding without_codes
digit_step true rest is = grind (arith, is)
digit_step false rest is = refl

-- The code of a colour isn't shown.
colour_taken_off : (key : ℕ) (rest : List ℕ) → without_codes false (colour_code key ++ rest) ≡ without_codes false rest
unfolding without_codes
colour_taken_off key rest = digit_step (colour_digit key == 109) rest (digit_goes_on (key % 6))

end_taken_off : (rest : List ℕ) → without_codes false (end_code ++ rest) ≡ without_codes false rest
unfolding without_codes
end_taken_off rest = refl

-- Of a coloured text only the text is shown.
one_shown : (key : Option ℕ) (text rest : List ℕ) → list_any is_escape text ≡ false
    → without_codes false (coloured key text ++ rest) ≡ text ++ without_codes false rest
one_shown None text rest none = plain_text text rest none
one_shown (Some key) text rest none =
    ap (without_codes false) (append_assoc (colour_code key) (text ++ end_code) rest)
    ∙ (colour_taken_off key ((text ++ end_code) ++ rest)
    ∙ (ap (without_codes false) (append_assoc text end_code rest)
    ∙ (plain_text text (end_code ++ rest) none
    ∙ ap (λ t. text ++ t) (end_taken_off rest))))

-- Of coloured runs their texts are shown.
all_shown : (runs : List Run) → without_codes false (flat_map coloured_run runs) ≡ flat_map (λ run. visible (string_bytes run.text)) runs
unfolding without_codes
all_shown [] = refl
all_shown (run ∷ runs) =
    let shown : List ℕ = visible (string_bytes run.text) in
    one_shown run.key shown (flat_map coloured_run runs) (no_escape (string_bytes run.text) (IsUtf8-string_bytes run.text))
    ∙ ap (λ t. visible (string_bytes run.text) ++ t) (all_shown runs)

pub codes_taken_off : (runs : List Run) → without_codes false (flat_map coloured_run runs) ≡ visible (runs_text runs)
codes_taken_off runs = all_shown runs ∙ runs_shown runs
