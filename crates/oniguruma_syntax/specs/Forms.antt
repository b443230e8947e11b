-- The forms of Oniguruma's syntax that `regex` doesn't have.
use Rattle.std.specs.Prelude.{◌≡◌, ℕ, Bool, true, false, not, ◌==◌, ◌||◌, ◌&&◌, List, Option, Some, None, slice_get}
use Rattle.std.specs.Char.Unicode.Alphabetic.{is_alphabetic}
use Rattle.std.specs.Char.Unicode.Numeric.{is_numeric}
use Rattle.std.specs.List.{list_all, list_any}
use Rattle.std.specs.Str.{chars}
use Rattle.oniguruma_syntax.specs.Spelling.{spelled_all}
use Rattle.oniguruma_syntax.specs.declared.token.Form.{Form}
use Rattle.oniguruma_syntax.specs.declared.token.Form.TheVariants as form
use Rattle.oniguruma_syntax.specs.declared.token.Node.{Node}
use Rattle.oniguruma_syntax.specs.declared.token.Opening.{Opening}
use Rattle.oniguruma_syntax.specs.declared.token.Opening.TheVariants as opening
use Rattle.oniguruma_syntax.specs.declared.token.Token.{Token}
use Rattle.oniguruma_syntax.specs.declared.token.Token.TheVariants.{Placeholder, Char, Symbol, Blank, LineComment, Escape, Edge, Code, Enclosed, Open, Flags, Quantifier, Interval, Class, Posix, Malformed, Unread}

-- ---- names of groups

-- A letter or `_`.
abbrev pub begins_name : ℕ → Bool
begins_name c = is_alphabetic c || (c == 95)

-- A letter, a digit or `_`.
abbrev pub continues_name : ℕ → Bool
continues_name c = (is_alphabetic c || is_numeric c) || (c == 95)

-- There is a first character, and a name may begin with it.
abbrev pub may_begin : Option ℕ → Bool
may_begin None = false
may_begin (Some c) = begins_name c

-- The text is a name of a group that `regex` and Oniguruma both take.
abbrev pub is_group_name : List ℕ → Bool
is_group_name name = may_begin (slice_get (chars name) 0) && list_all continues_name (chars name)

-- ---- forms

-- The start of a group is one that `regex` doesn't have.
abbrev pub is_own_opening : Opening → Bool
is_own_opening opening.Capture = false
is_own_opening opening.Plain = false
is_own_opening opening.Atomic = true
is_own_opening opening.Ahead = true
is_own_opening opening.NotAhead = true
is_own_opening opening.Behind = true
is_own_opening opening.NotBehind = true
is_own_opening opening.Absent = true
is_own_opening opening.Condition = true
is_own_opening opening.Unknown = false

-- A comment, or a group whose name `regex` doesn't take.
abbrev pub is_own_enclosed : Form → List ℕ → Bool
is_own_enclosed form.Comment inside = true
is_own_enclosed form.Name inside = not (is_group_name inside)
is_own_enclosed form.Property inside = false
is_own_enclosed form.NotProperty inside = false
is_own_enclosed form.Code inside = false

-- The escape of one of `h`, `H`, `Z`, `R` and `e`.
abbrev pub is_own_escape : ℕ → Bool
is_own_escape c = (c == 104) || ((c == 72) || ((c == 90) || ((c == 82) || (c == 101))))

-- The token has a form that `regex` doesn't have.
abbrev pub is_own_form : Token → Bool
is_own_form (Placeholder whole) = false
is_own_form (Char c) = false
is_own_form (Symbol c) = false
is_own_form (Blank c) = false
is_own_form (LineComment text) = false
is_own_form (Escape c) = is_own_escape c
is_own_form (Edge spelling) = false
is_own_form (Code start radix digits) = false
is_own_form (Enclosed which start inside end) = is_own_enclosed which inside.now
is_own_form (Open how spelling) = is_own_opening how
is_own_form (Flags flags end) = false
is_own_form (Quantifier how spelling) = false
is_own_form (Interval counts end) = false
is_own_form (Class which spelling) = false
is_own_form (Posix start name) = false
is_own_form (Malformed rest) = false
is_own_form (Unread text) = false

-- `found` says whether one of the tokens that a text is read into has a form that `regex` doesn't have.
abbrev pub FindsOwnForm : List ℕ → Bool → Type 0
FindsOwnForm text found = (nodes : List Node) × (spelled_all nodes ≡ text)
    × (found ≡ list_any (λ node. is_own_form node.token) nodes)
