-- What the lines of a log are.
use Rattle.std.specs.Prelude.{ℕ, ◌<◌, ◌≤◌, ◌/◌, Bool, not, ◌&&◌, nat_eq, List, length, drop, codes, count_by}
use Rattle.std.specs.List.{starts_with, ends_with}
use Rattle.std.specs.Str.{trim, trim_start}
use denote.Ref.{Bor}

-- A text begins with `{` and ends with `}`, and what comes after the `{` and white space begins with `"`.
abbrev pub is_object : List ℕ → Bool
is_object text = starts_with nat_eq text (codes "{")
    && (starts_with nat_eq (trim_start (drop 1 text)) (codes "\"") && ends_with nat_eq text (codes "}"))

-- A LINE LOOKS LIKE A JSON OBJECT: without the white space around it, it is such a text.
abbrev pub looks_like_object : List ℕ → Bool
looks_like_object line = is_object (trim line)

-- how many of the lines don't look like JSON objects
abbrev pub others : List (Bor (List ℕ)) → ℕ
others lines = count_by (λ line. not (looks_like_object line.now)) lines

-- THE LINES ARE JSON OBJECTS: at least one of them looks so, and at most one of ten doesn't.
abbrev pub AreObjects : List (Bor (List ℕ)) → Type 0
AreObjects lines = (others lines < length lines) × (others lines ≤ length lines / 10)
