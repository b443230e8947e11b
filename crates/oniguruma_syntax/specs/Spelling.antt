-- How the tokens of a text are spelled.
use Rattle.std.specs.Prelude.{ℕ, List, ◌∷◌, ◌++◌, codes}
use Rattle.std.specs.Char.{encode_utf8}
use Rattle.std.specs.List.{flat_map}
use Rattle.oniguruma_syntax.specs.declared.token.Node.{Node}
use Rattle.oniguruma_syntax.specs.declared.token.Token.{Token}
use Rattle.oniguruma_syntax.specs.declared.token.Token.TheVariants.{Placeholder, Char, Symbol, Blank, LineComment, Escape, Edge, Code, Enclosed, Open, Flags, Quantifier, Interval, Class, Posix, Malformed, Unread}

-- How a token is spelled.
abbrev pub spelled : Token → List ℕ
spelled (Placeholder whole) = whole.text.now
spelled (Char c) = encode_utf8 c
spelled (Symbol c) = encode_utf8 c
spelled (Blank c) = encode_utf8 c
spelled (LineComment text) = text.now
spelled (Escape c) = 92 ∷ encode_utf8 c
spelled (Edge spelling) = spelling.now
spelled (Code start radix digits) = start.now ++ digits.now
spelled (Enclosed which start inside end) = start.now ++ (inside.now ++ end.now)
spelled (Open how spelling) = spelling.now
spelled (Flags flags end) = codes "(?" ++ (flags.now ++ end.now)
spelled (Quantifier how spelling) = spelling.now
spelled (Interval counts end) = codes "{" ++ (counts.now ++ end.now)
spelled (Class which spelling) = spelling.now
spelled (Posix start name) = start.now ++ (name.now ++ codes ":]")
spelled (Malformed rest) = rest.now
spelled (Unread text) = text.now

abbrev pub spelled_node : Node → List ℕ
spelled_node node = spelled node.token

-- THE TEXT OF TOKENS: their spellings, one after another.
unfoldable pub spelled_all : List Node → List ℕ
spelled_all nodes = flat_map spelled_node nodes
