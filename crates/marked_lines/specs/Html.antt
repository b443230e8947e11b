-- HTML in which text is escaped, and the text that a reader of it sees.
use Rattle.std.specs.Prelude.{ℕ, ◌==◌, Bool, ◌||◌, List, [], ◌∷◌, ◌++◌, Option, Some, None, if◌then◌else◌, unwrap_or, codes, flat_map, slice_get, string_bytes}
use Rattle.std.specs.List.{list_any}
use Rattle.std.specs.Str.{bytes_eq}
use Rattle.groklog_reports.specs.Visible.{visible}
use Rattle.marked_lines.specs.Colours.{colour_digit}
use Rattle.marked_lines.specs.declared.runs.Run.{Run}

-- A byte of a text as it is written in HTML: as a reference if it is & < > " or ', which have a meaning of their own
-- there, and otherwise as it is.
abbrev pub escaped_byte : ℕ → List ℕ
escaped_byte b = if b == 38 then codes "&amp;" else if b == 60 then codes "&lt;"
    else if b == 62 then codes "&gt;" else if b == 34 then codes "&quot;"
    else if b == 39 then codes "&#39;" else b ∷ []

-- A text as it is written in HTML, byte by byte.
abbrev pub escaped : List ℕ → List ℕ
escaped text = flat_map escaped_byte text

-- Whether a byte begins or ends a tag, or ends the value of an attribute in quotes: < > " or '.
abbrev pub is_markup : ℕ → Bool
is_markup b = (b == 60) || ((b == 62) || ((b == 34) || (b == 39)))

-- Whether a text has a byte that begins or ends a tag, or ends the value of an attribute.
abbrev pub has_markup : List ℕ → Bool
has_markup text = list_any is_markup text

-- Where a reader of HTML is: in the text, in a tag, or in a reference with the name so far.
pub data Place : Type 0 where
  InText : Place
  InTag : Place
  InReference : List ℕ → Place

-- What a reference with this name means.
abbrev pub referenced : List ℕ → List ℕ
referenced name = if bytes_eq name (codes "amp") then codes "&" else if bytes_eq name (codes "lt") then codes "<"
    else if bytes_eq name (codes "gt") then codes ">" else if bytes_eq name (codes "quot") then 34 ∷ []
    else if bytes_eq name (codes "#39") then 39 ∷ [] else []

-- Where the reader is after a byte: a tag is from < to >, and a reference from & to the semicolon.
abbrev pub place_after : Place → ℕ → Place
place_after InText b = if b == 60 then InTag else if b == 38 then InReference [] else InText
place_after InTag b = if b == 62 then InText else InTag
place_after (InReference name) b = if b == 59 then InText else InReference (name ++ b ∷ [])

-- The text that the page shows for a byte of HTML: the byte itself outside tags and references, nothing for the bytes of a
-- tag, and the meaning of a reference at its semicolon.
abbrev pub seen_byte : Place → ℕ → List ℕ
seen_byte InText b = if (b == 60) || (b == 38) then [] else b ∷ []
seen_byte InTag b = []
seen_byte (InReference name) b = if b == 59 then referenced name else []

-- The text that the page shows, if its reader is at this place: the HTML without its tags, and with the meaning of each
-- reference.
unfoldable pub html_text : Place → List ℕ → List ℕ
html_text place [] = []
html_text place (b ∷ rest) = seen_byte place b ++ html_text (place_after place b) rest

-- The title of a key: the text at its number, or the empty text if there is none.
abbrev pub title_at : List (List ℕ) → ℕ → List ℕ
title_at titles key = unwrap_or (slice_get titles key) []

-- The beginning of a `span` with the class of the colour of a key and its title.
abbrev pub span_begin : List (List ℕ) → ℕ → List ℕ
span_begin titles key = codes "<span class=\"c" ++ (colour_digit key ∷ (codes "\" title=\""
    ++ (escaped (visible (title_at titles key)) ++ codes "\">")))

-- A text in the `span` of a key, if there is a key.
abbrev pub marked_html : List (List ℕ) → Option ℕ → List ℕ → List ℕ
marked_html titles None text = text
marked_html titles (Some key) text = span_begin titles key ++ (text ++ codes "</span>")

-- A run in HTML, with its text as messages show it.
abbrev pub run_html : List (List ℕ) → Run → List ℕ
run_html titles run = marked_html titles run.key (escaped (visible (string_bytes run.text)))
