-- The pieces of a text, defined by byte ranges of the whole text, and not by a way to find them. Texts are
-- their UTF-8 bytes. Each delimiter is ASCII. So a run of characters other than `%` is a run of bytes other
-- than `%`, and it ends where a character begins.
use Rattle.std.specs.Prelude.{◌≡◌, ◌≢◌, ◌⊎◌, ℕ, ◌+◌, ◌<◌, ◌≤◌, Bool, true, false, List, [], ◌∷◌, ◌++◌, length, drop, slice_index, slice_range, Option, Some, None}
use Rattle.std.specs.List.{prefix_len, take_while}
use Rattle.std.specs.Str.{chars}
use Rattle.grok_parser.specs.Ascii.{close_brace, colon, equals_sign, open_brace, percent}
use Rattle.grok_parser.specs.declared.malformed.GrokPatternError.{GrokPatternError}
use Rattle.grok_parser.specs.declared.malformed.GrokPatternError.TheVariants.{InvalidCharacter, InvalidPattern, InvalidPatternDefinition}
use Rattle.grok_parser.specs.Pieces.{is_name_byte, is_alias_byte, is_terminator, is_brace, Parts, Piece, Regular, Placeholder, Malformed}

-- ---- regular pieces

-- the byte at position i of T is b
abbrev pub HasByteAt : List ℕ → ℕ → ℕ → Type 0
HasByteAt T i b = (i < length T) × (slice_index T i ≡ b)

-- No byte of T from position i up to e is a `%`. At e is a `%`, or the end of T.
pub record IsPercentFree (T : List ℕ) (i e : ℕ) : Type 0 where
  pub within : e ≤ length T
  pub free : (k : ℕ) → i ≤ k → k < e → slice_index T k ≢ percent
  pub ends : (e ≡ length T) ⊎ HasByteAt T e percent

-- The range from s to e of T is a regular piece. There are three kinds. It begins with a byte other than `%`
-- and goes on to the next `%`. Or it is a `%` at the end of T. Or it is a `%`, a byte other than `{`, and what
-- follows up to the next `%`.
pub data IsRegularPiece (T : List ℕ) (s e : ℕ) : Type 0 where
  Plain : s < e → IsPercentFree T s e → IsRegularPiece T s e
  Last : HasByteAt T s percent → e ≡ s + 1 → e ≡ length T → IsRegularPiece T s e
  Percent : HasByteAt T s percent → s + 1 < length T → slice_index T (s + 1) ≢ open_brace → s + 2 ≤ e
      → IsPercentFree T (s + 2) e → IsRegularPiece T s e

-- ---- placeholders

-- the byte b and then the part, or the empty text if the part is missing
abbrev pub after_byte : ℕ → Option (List ℕ) → List ℕ
after_byte b None = []
after_byte b (Some part) = b ∷ part

-- `%{name:alias:extract=definition}`, without the parts that are missing
abbrev pub written : List ℕ → Option (List ℕ) → Option (List ℕ) → Option (List ℕ) → List ℕ
written name alias extract definition = name ++ (after_byte colon alias
    ++ (after_byte colon extract ++ (after_byte equals_sign definition ++ close_brace ∷ [])))

-- every byte passes the test
abbrev pub AllPass : (ℕ → Bool) → List ℕ → Type 0
AllPass p [] = Unit {0}
AllPass p (b ∷ bs) = (p b ≡ true) × AllPass p bs

-- no byte passes the test
abbrev pub NonePass : (ℕ → Bool) → List ℕ → Type 0
NonePass p [] = Unit {0}
NonePass p (b ∷ bs) = (p b ≡ false) × NonePass p bs

-- the part, or the empty text if it is missing
abbrev pub or_empty : Option (List ℕ) → List ℕ
or_empty None = []
or_empty (Some part) = part

-- A placeholder may have this alias and this extract together, each of which may be missing. An alias may be empty
-- only before an extract, and an extract needs an alias before it, perhaps an empty one.
abbrev pub MayStand : Option (List ℕ) → Option (List ℕ) → Type 0
MayStand None None = Unit {0}
MayStand None (Some extract) = ⊥
MayStand (Some alias) None = AllPass is_alias_byte alias × (0 < length alias)
MayStand (Some alias) (Some extract) = AllPass is_alias_byte alias × AllPass is_alias_byte extract
    × (0 < length extract)

-- A definition isn't empty, and has no brace.
abbrev pub MayDefine : Option (List ℕ) → Type 0
MayDefine None = Unit {0}
MayDefine (Some definition) = NonePass is_brace definition × (0 < length definition)

-- The text begins with what follows the `%{` of a placeholder with these parts, and `rest` comes after that.
pub record ReadsParts (text : List ℕ) (p : Parts) (rest : List ℕ) : Type 0 where
  pub alias : Option (List ℕ)
  pub extract : Option (List ℕ)
  pub definition : Option (List ℕ)
  pub spelled : text ≡ written p.name alias extract definition ++ rest
  pub named : AllPass is_name_byte p.name
  pub nonempty : 0 < length p.name
  pub words : MayStand alias extract
  pub defined : MayDefine definition
  pub alias_is : p.alias ≡ or_empty alias
  pub extract_is : p.extract ≡ or_empty extract
  pub definition_is : p.definition ≡ or_empty definition

-- T has `%{` at position s
abbrev pub IsOpenAt : List ℕ → ℕ → Type 0
IsOpenAt T s = HasByteAt T s percent × HasByteAt T (s + 1) open_brace

-- the range from s to e of T is a placeholder of these parts
pub record IsPlaceholder (T : List ℕ) (s e : ℕ) (p : Parts) : Type 0 where
  pub opens : IsOpenAt T s
  pub within : e ≤ length T
  pub reads : ReadsParts (drop (s + 2) T) p (drop e T)

-- ---- faults

-- The kinds of words of a placeholder, in their order. A fourth word is always a fault.
pub data WordKind : Type 0 where
  NameWord : WordKind
  AliasWord : WordKind
  ExtractWord : WordKind
  FourthWord : WordKind

-- the kind of the word that follows a word of this kind and a `:`
abbrev pub next_word : WordKind → WordKind
next_word NameWord = AliasWord
next_word AliasWord = ExtractWord
next_word ExtractWord = FourthWord
next_word FourthWord = FourthWord

-- whether a word of this kind may have this byte
abbrev pub is_legal : WordKind → ℕ → Bool
is_legal NameWord b = is_name_byte b
is_legal AliasWord b = is_alias_byte b
is_legal ExtractWord b = is_alias_byte b
is_legal FourthWord b = is_alias_byte b

-- the longest word of this kind that the text begins with
abbrev pub word_of : WordKind → List ℕ → List ℕ
word_of kind text = take_while (is_legal kind) text

-- the text after the longest word of this kind that it begins with
abbrev pub after_word : WordKind → List ℕ → List ℕ
after_word kind text = drop (prefix_len (is_legal kind) text) text

-- The word at the start of the text, which is of this kind, has this fault. The text ends after it, or a
-- character other than `}`, `=` and `:` follows, or it is an empty name, a fourth word, an empty extract, or an
-- empty alias without an extract after it.
pub data IsWordFault (kind : WordKind) (text : List ℕ) : GrokPatternError → Type 0 where
  Ends : after_word kind text ≡ [] → IsWordFault kind text InvalidPattern
  Odd : (c b : ℕ) (more : List ℕ) → after_word kind text ≡ b ∷ more → is_terminator b ≡ false
      → slice_index (chars (after_word kind text)) 0 ≡ c → IsWordFault kind text (InvalidCharacter c)
  NoName : (b : ℕ) (more : List ℕ) → kind ≡ NameWord → after_word kind text ≡ b ∷ more → is_terminator b ≡ true
      → word_of kind text ≡ [] → IsWordFault kind text InvalidPattern
  TooMany : (b : ℕ) (more : List ℕ) → kind ≡ FourthWord → after_word kind text ≡ b ∷ more → is_terminator b ≡ true
      → IsWordFault kind text InvalidPattern
  NoExtract : (b : ℕ) (more : List ℕ) → kind ≡ ExtractWord → after_word kind text ≡ b ∷ more
      → is_terminator b ≡ true
      → word_of kind text ≡ [] → IsWordFault kind text InvalidPatternDefinition
  NoAlias : (b : ℕ) (more : List ℕ) → kind ≡ AliasWord → after_word kind text ≡ b ∷ more
      → (b ≡ close_brace) ⊎ (b ≡ equals_sign)
      → word_of kind text ≡ [] → IsWordFault kind text InvalidPatternDefinition

-- the word of this kind at the start of the text has no fault
abbrev pub HasNoWordFault : WordKind → List ℕ → Type 0
HasNoWordFault kind text = (fault : GrokPatternError) → IsWordFault kind text fault → ⊥

-- The text begins with an inline definition, which isn't empty and has no brace, and with the `}` after it.
pub record HasDefinition (text : List ℕ) : Type 0 where
  pub definition : List ℕ
  pub rest : List ℕ
  pub spelled : text ≡ definition ++ close_brace ∷ rest
  pub no_brace : NonePass is_brace definition
  pub some : 0 < length definition

-- The rest of a placeholder, from the word of this kind on, has this fault. The fault is that of the first faulty
-- word, or if no word is faulty, that of the definition.
pub data IsFaultFrom : WordKind → List ℕ → GrokPatternError → Type 0 where
  Here : (kind : WordKind) (text : List ℕ) (fault : GrokPatternError) → IsWordFault kind text fault
      → IsFaultFrom kind text fault
  Later : (kind : WordKind) (text : List ℕ) (fault : GrokPatternError) (more : List ℕ)
      → HasNoWordFault kind text
      → after_word kind text ≡ colon ∷ more → IsFaultFrom (next_word kind) more fault
      → IsFaultFrom kind text fault
  Undefined : (kind : WordKind) (text : List ℕ) (more : List ℕ) → HasNoWordFault kind text
      → after_word kind text ≡ equals_sign ∷ more → (HasDefinition more → ⊥)
      → IsFaultFrom kind text InvalidPatternDefinition

-- the text is what follows the `%{` of a malformed placeholder with this fault
abbrev pub IsFault : List ℕ → GrokPatternError → Type 0
IsFault text fault = IsFaultFrom NameWord text fault

-- ---- the pieces

-- THE PIECES of T: the list has the pieces of T from the byte position s on
abbrev pub ArePieces : List ℕ → ℕ → List Piece → Type 0
ArePieces T s [] = s ≡ length T
ArePieces T s (Regular a e text ∷ ps) = (a ≡ s) × IsRegularPiece T s e × (text ≡ slice_range T s e)
    × ArePieces T e ps
ArePieces T s (Placeholder a e text parts ∷ ps) = (a ≡ s) × IsPlaceholder T s e parts
    × (text ≡ slice_range T s e) × ArePieces T e ps
ArePieces T s (Malformed f ∷ ps) = (ps ≡ []) × IsOpenAt T s × ((e : ℕ) (parts : Parts)
    → IsPlaceholder T s e parts → ⊥) × IsFault (drop (s + 2) T) f
