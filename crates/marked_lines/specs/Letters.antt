-- The letters that stand under the columns of a field.
use Rattle.std.specs.Prelude.{ℕ, ◌+◌, ◌%◌, ◌-◌, List, Option, Some, None, if◌then◌else◌, nat_lt, false, replicate, chars, string_bytes}
use Rattle.unicode_width.specs.Width.{str_width}
use Rattle.groklog_reports.specs.Visible.{visible}
use Rattle.marked_lines.specs.declared.runs.Run.{Run}

-- The letter of a key: `a` to `z` for the first keys, then `A` to `Z`, and then `a` again.
abbrev pub letter_of : ℕ → ℕ
letter_of key = let number = key % 52 in if nat_lt number 26 then 97 + number else 65 + (number - 26)

-- The letter of a key, or a blank if there is none.
abbrev pub letter_or_blank : Option ℕ → ℕ
letter_or_blank None = 32
letter_or_blank (Some key) = letter_of key

-- What stands under a run: its letter, once for each column that its text takes on a terminal.
abbrev pub run_letters : Run → List ℕ
run_letters run = replicate (str_width false (chars (visible (string_bytes run.text)))) (letter_or_blank run.key)
