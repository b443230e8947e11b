-- Which texts a placeholder can have as its name.
use Rattle.std.specs.Prelude.{nat_lt, ◌&&◌, ℕ, Bool, List, length}
use Rattle.std.specs.List.{list_all}
use Rattle.grok_parser.specs.Pieces.{is_name_byte}

-- whether the text is a name: it isn't empty, and each of its bytes is allowed in a name
abbrev pub is_name : List ℕ → Bool
is_name text = nat_lt 0 (length text) && list_all is_name_byte text
