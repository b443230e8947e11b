-- How definitions are read that a user wrote in a line of a file or in a word after `-D`.
use Rattle.std.specs.Prelude.{ℕ, Bool, false, ◌==◌, ◌||◌, ◌&&◌, not, List, [], ◌∷◌, Option, Some, None, if◌then◌else◌, length, drop}
use Rattle.std.specs.Option.{option_map}
use Rattle.std.specs.List.{prefix_len, take_while}
use Rattle.grok_parser.specs.Ascii.{equals_sign}
use Rattle.grok_parser.specs.Pieces.{is_name_byte}

-- The byte is a space or a tab.
abbrev pub is_blank : ℕ → Bool
is_blank b = b == 32 || b == 9

-- A text without its leading blanks.
abbrev pub without_blanks : List ℕ → List ℕ
without_blanks text = drop (prefix_len is_blank text) text

-- The text begins with this byte.
abbrev pub begins_with : ℕ → List ℕ → Bool
begins_with byte [] = false
begins_with byte (b ∷ rest) = b == byte

-- The definition in what follows a name and a blank: the text after any further blanks. It is `None`
-- if that begins with `=`, as in `NAME = DEF`, whose writer hardly means a definition that begins with
-- `=`.
abbrev pub definition_after_blanks : List ℕ → Option (List ℕ)
definition_after_blanks text =
    if begins_with equals_sign (without_blanks text) then None else Some (without_blanks text)

-- The definition in what follows a name: the text after `=`, or the text after one or more blanks.
-- It is `None` if what follows begins with another byte, if it is empty, or if `=` comes after the
-- blanks.
abbrev pub definition_after : List ℕ → Option (List ℕ)
definition_after [] = None
definition_after (b ∷ rest) =
    if b == equals_sign then Some rest else (if is_blank b then definition_after_blanks rest else None)

-- The name and the definition in a text `NAME=DEF` or `NAME DEF`, or `None` if the text doesn't
-- have this form. A name has ASCII letters, digits and `_`, and at least one of them.
abbrev pub definition_of : List ℕ → Option (List ℕ × List ℕ)
definition_of text =
    if length (take_while is_name_byte text) == 0 then None
    else option_map (λ definition. (take_while is_name_byte text, definition))
    (definition_after (drop (prefix_len is_name_byte text) text))

-- The text begins with one or more blanks and `=`.
abbrev pub is_spaced : List ℕ → Bool
is_spaced text = not (begins_with equals_sign text) && begins_with equals_sign (without_blanks text)

-- The name in a text such as `NAME = DEF`, in which blanks come between a name and `=`, or `None` if
-- the text has another form.
abbrev pub name_of_spaced : List ℕ → Option (List ℕ)
name_of_spaced text =
    if not (length (take_while is_name_byte text) == 0) && is_spaced (drop (prefix_len is_name_byte text) text)
    then Some (take_while is_name_byte text) else None
