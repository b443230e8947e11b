-- The pieces of a text, as a function that computes them. Texts are their UTF-8 bytes.
use Rattle.std.specs.Prelude.{ℕ, suc, zero, ◌+◌, ◌-◌, Bool, true, false, not, ◌||◌, ◌&&◌, if◌then◌else◌, ◌==◌, List, [], ◌∷◌, length, take, drop, slice_index, Result, Ok, Err}
use Rattle.std.specs.Char.{is_ascii_alphanumeric}
use Rattle.std.specs.List.{prefix_len, take_while, position_or_len, before_first}
use Rattle.std.specs.Str.{chars}
use Rattle.grok_parser.specs.Ascii.{close_brace, close_bracket, colon, dot, equals_sign, hyphen, open_brace, open_bracket, percent, underscore}
use Rattle.grok_parser.specs.declared.malformed.GrokPatternError.{GrokPatternError}
use Rattle.grok_parser.specs.declared.malformed.GrokPatternError.TheVariants.{InvalidCharacter, InvalidPattern, InvalidPatternDefinition}

-- whether a name may have this byte
abbrev pub is_name_byte : ℕ → Bool
is_name_byte b = is_ascii_alphanumeric b || b == underscore

-- whether an alias or an extract may have this byte
abbrev pub is_alias_byte : ℕ → Bool
is_alias_byte b = is_name_byte b || (b == hyphen || (b == open_bracket || (b == close_bracket || b == dot)))

-- whether this byte ends a word: `}`, `=` or `:`
abbrev pub is_terminator : ℕ → Bool
is_terminator b = b == close_brace || (b == equals_sign || b == colon)

abbrev pub is_percent : ℕ → Bool
is_percent b = b == percent

abbrev pub is_brace : ℕ → Bool
is_brace b = b == open_brace || b == close_brace

-- a word, the byte that ends it, and the text after that byte
pub record Word : Type 0 where
  pub word : List ℕ
  pub terminator : ℕ
  pub rest : List ℕ

-- the parts of a placeholder; one that is missing is the empty text
pub record Parts : Type 0 where
  pub name : List ℕ
  pub alias : List ℕ
  pub extract : List ℕ
  pub definition : List ℕ

-- the parts of a placeholder, and the text after its `}`
pub record Inside : Type 0 where
  pub parts : Parts
  pub rest : List ℕ

infixl 10 ◌>>=◌
abbrev pub ◌>>=◌ : {A B : Type 0} → Result A GrokPatternError → (A → Result B GrokPatternError)
    → Result B GrokPatternError
(Ok x) >>= f = f x
(Err e) >>= f = Err e

-- The word `word` with the byte that ends it and the text after that, given all the text after the word. If that
-- doesn't begin with a byte that ends words, the word has a fault.
abbrev pub word_end : List ℕ → List ℕ → Result Word GrokPatternError
word_end word [] = Err InvalidPattern
word_end word (b ∷ rest) = if is_terminator b then Ok (record { word = word; terminator = b; rest = rest }) else Err (InvalidCharacter (slice_index (chars (b ∷ rest)) 0))

-- the word that a text begins with, or its fault; `is_legal` says which bytes the word may have
unfoldable pub word_at : (ℕ → Bool) → List ℕ → Result Word GrokPatternError
word_at is_legal text = word_end (take_while is_legal text) (drop (prefix_len is_legal text) text)

-- The definition and the text after its `}`, given all the text after the definition. If that doesn't begin with
-- `}`, or the definition is empty, it has a fault.
abbrev pub definition_end : List ℕ → List ℕ → Result (List ℕ × List ℕ) GrokPatternError
definition_end definition [] = Err InvalidPatternDefinition
definition_end definition (b ∷ rest) = if b == close_brace && not (length definition == 0)
    then Ok (definition, rest) else Err InvalidPatternDefinition

-- the definition that a text begins with, and the text after its `}`, or its fault
unfoldable pub definition_at : List ℕ → Result (List ℕ × List ℕ) GrokPatternError
definition_at text = definition_end (before_first is_brace text) (drop (position_or_len is_brace text) text)

-- The parts of a placeholder with this name, alias and extract, and the text after its `}`. `terminator` is the byte
-- that ends its last word, and `rest` is what follows that byte. If it isn't `}`, a definition has to follow.
unfoldable pub close_at : List ℕ → List ℕ → List ℕ → ℕ → List ℕ → Result Inside GrokPatternError
close_at name alias extract terminator rest =
    if terminator == close_brace then Ok (record { parts = record { name = name; alias = alias; extract = extract; definition = [] }; rest = rest })
    else (definition_at rest >>= λ d. Ok (record { parts = record { name = name; alias = alias; extract = extract; definition = d.0 }; rest = d.1 }))

abbrev pub is_empty : List ℕ → Bool
is_empty text = length text == 0

-- the parts of a placeholder with this name and alias, and the text after its `}`; `text` follows its second `:`
unfoldable pub extract_at : List ℕ → List ℕ → List ℕ → Result Inside GrokPatternError
extract_at name alias text = do
  w ← word_at is_alias_byte text
  if is_empty w.word then Err InvalidPatternDefinition
      else (if w.terminator == colon then (word_at is_alias_byte w.rest >>= λ _. Err InvalidPattern)
      else close_at name alias w.word w.terminator w.rest)

-- the parts of a placeholder with this name, and the text after its `}`; `text` follows its first `:`
unfoldable pub alias_at : List ℕ → List ℕ → Result Inside GrokPatternError
alias_at name text = do
  w ← word_at is_alias_byte text
  if w.terminator == colon then extract_at name w.word w.rest
      else (if is_empty w.word then Err InvalidPatternDefinition
      else close_at name w.word [] w.terminator w.rest)

-- the parts of a placeholder, and the text after its `}`; `text` follows its `%{`
unfoldable pub placeholder_at : List ℕ → Result Inside GrokPatternError
placeholder_at text = do
  w ← word_at is_name_byte text
  if is_empty w.word then Err InvalidPattern
      else (if w.terminator == colon then alias_at w.word w.rest
      else close_at w.word [] [] w.terminator w.rest)

-- How many bytes at the start of a regular piece are skipped before the `%` after it is searched for: none, or if it
-- begins with `%`, that and the byte after it, if there is one.
unfoldable pub regular_skip : List ℕ → ℕ
regular_skip text = if is_percent (slice_index text 0) then (if length text == 1 then 1 else 2) else 0

-- the length of the regular piece that a text begins with
unfoldable pub regular_len : List ℕ → ℕ
regular_len text = regular_skip text + position_or_len is_percent (drop (regular_skip text) text)

-- A piece of a text. Regular text and a placeholder have their byte range and their text.
pub data Piece : Type 0 where
  Regular : (from to : ℕ) → List ℕ → Piece
  Placeholder : (from to : ℕ) → List ℕ → Parts → Piece
  Malformed : GrokPatternError → Piece

-- the first piece of a text, and the text after it
pub record First : Type 0 where
  pub piece : Piece
  pub rest : List ℕ

-- the first piece of a text that begins with `%{`, given what is read after that
abbrev pub after_open : ℕ → List ℕ → Result Inside GrokPatternError → First
after_open at text (Ok inside) = let n = length text - length inside.rest in record { piece = Placeholder at (at + n) (take n text) inside.parts; rest = inside.rest }
after_open at text (Err e) = record { piece = Malformed e; rest = [] }

-- whether the text begins with `%{`
abbrev pub is_open : List ℕ → Bool
is_open text = slice_index text 0 == percent && slice_index text 1 == open_brace

-- The first piece of a text, and the text after it. The text isn't empty, and begins at byte `at` of the whole.
unfoldable pub first_piece : ℕ → List ℕ → First
first_piece at text = if is_open text then after_open at text (placeholder_at (drop 2 text))
    else (record { piece = Regular at (at + regular_len text) (take (regular_len text) text); rest = drop (regular_len text) text })

-- The pieces of a text after its first `skip` bytes. The text begins at byte `at` of the whole.
unfoldable pub pieces_after : (skip at : ℕ) → List ℕ → List Piece
pieces_after skip at [] = []
pieces_after (suc k) at (b ∷ bs) = pieces_after k (at + 1) bs
pieces_after zero at (b ∷ bs) = let f = first_piece at (b ∷ bs) in f.piece ∷ pieces_after
    (length bs - length f.rest) (at + 1) bs

-- the pieces of a text that begins at byte `at` of the whole
abbrev pub pieces_at : ℕ → List ℕ → List Piece
pieces_at at text = pieces_after 0 at text

-- THE PIECES of a text
abbrev pub pieces : List ℕ → List Piece
pieces text = pieces_at 0 text

-- Whether a word may have this byte. With `true` the word is a name, and with `false` it is an alias or an extract.
abbrev pub is_word_byte : Bool → ℕ → Bool
is_word_byte true b = is_name_byte b
is_word_byte false b = is_alias_byte b
