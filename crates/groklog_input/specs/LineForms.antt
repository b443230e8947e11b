-- How a line of a log is read before patterns are searched for in it, and what the lines show about their input.
use Rattle.std.specs.Prelude.{ℕ, ◌-◌, ◌==◌, List, [], ◌∷◌, Bool, if◌then◌else◌, codes, length, take, drop, map}
use Rattle.std.specs.List.{starts_with, ends_with, enumerate_from}
use Rattle.std.specs.Str.Lossy.{utf8_lossy}
use Rattle.groklog_input.specs.declared.line_form.LineForm.{LineForm}
use Rattle.groklog_input.specs.declared.line_form.Encoding.{Encoding}
use Rattle.groklog_input.specs.declared.line_form.Encoding.TheVariants.{Gzip, Xz, Zstd, Bzip2, Utf16, Other}

-- The text without `part` at its front, if it begins with that, and otherwise the whole text.
abbrev pub without_prefix : List ℕ → List ℕ → List ℕ
without_prefix part text = if starts_with ◌==◌ text part then drop (length part) text else text

-- The text without `part` at its end, if it ends with that, and otherwise the whole text.
abbrev pub without_suffix : List ℕ → List ℕ → List ℕ
without_suffix part text = if ends_with ◌==◌ text part then take (length text - length part) text else text

-- The bytes with which some programs begin a file in UTF-8.
abbrev pub byte_order_mark : List ℕ
byte_order_mark = 0xEF ∷ 0xBB ∷ 0xBF ∷ []

-- The byte before the line feed in files that were written on Windows.
abbrev pub carriage_return : List ℕ
carriage_return = codes "\r"

-- The line without what its form takes off its ends: the byte order mark from the first line of an input, and one
-- carriage return from the end of each line, if the form asks for that.
abbrev pub trimmed : LineForm → Bool → List ℕ → List ℕ
trimmed form is_first line =
    let rest = if is_first then without_prefix byte_order_mark line else line in
    if form.drops_return then without_suffix carriage_return rest else rest

-- HOW A LINE IS READ if `n` lines of its input come before it. If the form is lossy, each part that isn't UTF-8 becomes
-- U+FFFD.
abbrev pub formed : LineForm → ℕ → List ℕ → List ℕ
formed form n line = if form.is_lossy then utf8_lossy (trimmed form (n == 0) line) else trimmed form (n == 0) line

-- How these lines are read if `count` lines of their input come before them.
abbrev pub formed_lines : LineForm → ℕ → List (List ℕ) → List (List ℕ)
formed_lines form count lines = map (λ line. formed form line.0 line.1) (enumerate_from count lines)

-- ---- what the lines show about their input

-- The kind of an input, judged by the bytes that it begins with.
abbrev pub encoding_of : List ℕ → Encoding
encoding_of bytes =
    if starts_with ◌==◌ bytes (0x1F ∷ 0x8B ∷ []) then Gzip
    else (if starts_with ◌==◌ bytes (0xFD ∷ 0x37 ∷ 0x7A ∷ 0x58 ∷ 0x5A ∷ []) then Xz
    else (if starts_with ◌==◌ bytes (0x28 ∷ 0xB5 ∷ 0x2F ∷ 0xFD ∷ []) then Zstd
    else (if starts_with ◌==◌ bytes (0x42 ∷ 0x5A ∷ 0x68 ∷ []) then Bzip2
    else (if starts_with ◌==◌ bytes (0xFF ∷ 0xFE ∷ []) then Utf16
    else (if starts_with ◌==◌ bytes (0xFE ∷ 0xFF ∷ []) then Utf16 else Other)))))
