-- Runs in colours, and the text that a terminal shows of them.
use Rattle.std.specs.Prelude.{ℕ, ◌==◌, Bool, true, false, List, [], ◌∷◌, ◌++◌, Option, Some, None, if◌then◌else◌, string_bytes}
use Rattle.groklog_reports.specs.Visible.{visible}
use Rattle.marked_lines.specs.Colours.{colour_code}
use Rattle.marked_lines.specs.declared.runs.Run.{Run}

-- The code after which a terminal writes in its own colour again: an escape character and `[0m`.
abbrev pub end_code : List ℕ
end_code = 27 ∷ 91 ∷ 48 ∷ 109 ∷ []

-- A text in the colour of a key, if there is one.
abbrev pub coloured : Option ℕ → List ℕ → List ℕ
coloured None text = text
coloured (Some key) text = colour_code key ++ (text ++ end_code)

-- A run in the colour of its key, with its text as messages show it.
abbrev pub coloured_run : Run → List ℕ
coloured_run run = coloured run.key (visible (string_bytes run.text))

-- Whether what follows a byte is in a code, if that byte is in one or not: a code begins with an escape
-- character and ends with `m`.
abbrev pub is_code_after : Bool → ℕ → Bool
is_code_after false b = b == 27
is_code_after true b = if b == 109 then false else true

-- What a terminal shows of a byte that is in a code or not.
abbrev pub shown_byte : Bool → ℕ → List ℕ
shown_byte false b = if b == 27 then [] else b ∷ []
shown_byte true b = []

-- A text without its codes. The first argument says whether the text begins inside a code.
unfoldable pub without_codes : Bool → List ℕ → List ℕ
without_codes is_code [] = []
without_codes is_code (b ∷ rest) = shown_byte is_code b ++ without_codes (is_code_after is_code b) rest
