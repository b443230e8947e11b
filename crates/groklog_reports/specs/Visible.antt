-- How a foreign text, such as the name of a file, is shown in a message.
use Rattle.std.specs.Prelude.{ℕ, Bool, List, [], ◌∷◌, ◌==◌, ◌||◌, if◌then◌else◌}
use Rattle.std.specs.Char.{is_control}
use Rattle.std.specs.Int.{is_in_range}
use Rattle.std.specs.Char.Escape.{escape_default}
use Rattle.std.specs.List.{flat_map, list_any}
use Rattle.std.specs.Str.{chars, encode_utf8_all}

-- The characters that change the direction of text: Unicode's property Bidi_Control.
abbrev pub is_bidi_control : ℕ → Bool
is_bidi_control c = (c == 0x61c) || (is_in_range 0x200e 0x200f c
    || (is_in_range 0x202a 0x202e c || is_in_range 0x2066 0x2069 c))

-- Whether a terminal could take a character as a command.
abbrev pub is_raw : ℕ → Bool
is_raw c = is_control c || is_bidi_control c

-- Whether a text has a character that a terminal could take as a command.
abbrev pub has_raw : List ℕ → Bool
has_raw text = list_any is_raw (chars text)

-- A character as it is shown: `\n`, `\u{1b}` or the like for one that a terminal could take as a
-- command, and each other one as it is.
abbrev pub shown_char : ℕ → List ℕ
shown_char c = if is_raw c then escape_default c else c ∷ []

-- The text that is shown for a text.
unfoldable pub visible : List ℕ → List ℕ
visible text = encode_utf8_all (flat_map shown_char (chars text))
