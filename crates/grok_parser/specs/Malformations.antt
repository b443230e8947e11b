-- Why a placeholder is malformed, and from where on. There is one reason for each line of the rules for malformed
-- placeholders.
use Rattle.std.specs.Prelude.{◌≡◌, ℕ, ◌==◌, ◌+◌, ◌≤◌, Bool, true, false, if◌then◌else◌, List, [], ◌∷◌, length, drop, slice_index, Option, Some, None}
use Rattle.std.specs.List.{position_or_len, before_first}
use Rattle.std.specs.Str.{chars}
use Rattle.grok_parser.specs.Ascii.{close_brace, colon, equals_sign, open_brace}
use Rattle.grok_parser.specs.Pieces.{is_terminator, is_brace, is_empty}
use Rattle.grok_parser.specs.Grammar.{WordKind, NameWord, AliasWord, ExtractWord, FourthWord, next_word, word_of, after_word, HasNoWordFault, IsFaultFrom, IsOpenAt}
use Rattle.grok_parser.specs.declared.malformed.GrokPatternError.{GrokPatternError}
use Rattle.grok_parser.specs.declared.malformed.GrokPatternError.TheVariants.{InvalidCharacter, InvalidPattern, InvalidPatternDefinition}
use Rattle.grok_parser.specs.declared.malformed.MalformedReason.{MalformedReason}
use Rattle.grok_parser.specs.declared.malformed.MalformedReason.TheVariants as reason

-- the fault that the splitter reports for this reason
abbrev pub fault_of : MalformedReason → GrokPatternError
fault_of reason.Unclosed = InvalidPattern
fault_of (reason.InvalidCharacter c) = InvalidCharacter c
fault_of reason.NoName = InvalidPattern
fault_of reason.NoAlias = InvalidPatternDefinition
fault_of reason.NoExtract = InvalidPatternDefinition
fault_of reason.FourthWord = InvalidPattern
fault_of reason.UnclosedDefinition = InvalidPatternDefinition
fault_of reason.NoDefinition = InvalidPatternDefinition
fault_of reason.BraceInDefinition = InvalidPatternDefinition

-- Why a word of this kind is malformed, given whether it is empty, and the byte that ends it: the name or the extract is
-- empty, or the alias is empty and no extract follows, or it is a fourth word.
abbrev pub word_reason : WordKind → (is_empty : Bool) → (terminator : ℕ) → Option MalformedReason
word_reason NameWord true b = Some reason.NoName
word_reason NameWord false b = None
word_reason AliasWord true b = if b == colon then None else Some reason.NoAlias
word_reason AliasWord false b = None
word_reason ExtractWord true b = Some reason.NoExtract
word_reason ExtractWord false b = None
word_reason FourthWord is_empty b = Some reason.FourthWord

-- The word of this kind at the start of the text is malformed for this reason, from `rest` on. Either the text ends after
-- the word, or a character follows that can't end it, or the word itself is wrong: then `rest` begins with it.
pub data IsWordMalformed (kind : WordKind) (text : List ℕ) : MalformedReason → (rest : List ℕ) → Type 0 where
  Ends : after_word kind text ≡ [] → IsWordMalformed kind text reason.Unclosed []
  Odd : (c b : ℕ) (more : List ℕ) → after_word kind text ≡ b ∷ more → is_terminator b ≡ false
      → slice_index (chars (b ∷ more)) 0 ≡ c → IsWordMalformed kind text (reason.InvalidCharacter c) (b ∷ more)
  Wrong : (b : ℕ) (more : List ℕ) (why : MalformedReason) → after_word kind text ≡ b ∷ more → is_terminator b ≡ true
      → word_reason kind (is_empty (word_of kind text)) b ≡ Some why → IsWordMalformed kind text why text

-- The definition at the start of the text is malformed for this reason, from `rest` on, which is what follows the bytes
-- other than braces.
pub data IsDefinitionMalformed (text : List ℕ) : MalformedReason → (rest : List ℕ) → Type 0 where
  Stops : drop (position_or_len is_brace text) text ≡ [] → IsDefinitionMalformed text reason.UnclosedDefinition []
  Brace : (more : List ℕ) → drop (position_or_len is_brace text) text ≡ open_brace ∷ more
      → IsDefinitionMalformed text reason.BraceInDefinition (open_brace ∷ more)
  Nothing : (more : List ℕ) → drop (position_or_len is_brace text) text ≡ close_brace ∷ more
      → before_first is_brace text ≡ [] → IsDefinitionMalformed text reason.NoDefinition (close_brace ∷ more)

-- The rest of a placeholder, from the word of this kind on, is malformed for this reason, from `rest` on. It is the reason
-- of the first malformed word, or if no word is malformed, that of the definition.
pub data IsMalformedFrom : WordKind → (text : List ℕ) → MalformedReason → (rest : List ℕ) → Type 0 where
  Here : (kind : WordKind) (text : List ℕ) (why : MalformedReason) (rest : List ℕ) → IsWordMalformed kind text why rest
      → IsMalformedFrom kind text why rest
  Later : (kind : WordKind) (text : List ℕ) (why : MalformedReason) (rest more : List ℕ) → HasNoWordFault kind text
      → after_word kind text ≡ colon ∷ more → IsMalformedFrom (next_word kind) more why rest
      → IsMalformedFrom kind text why rest
  InDefinition : (kind : WordKind) (text : List ℕ) (why : MalformedReason) (rest more : List ℕ) → HasNoWordFault kind text
      → after_word kind text ≡ equals_sign ∷ more → IsDefinitionMalformed more why rest
      → IsMalformedFrom kind text why rest

-- WHY A PLACEHOLDER IS MALFORMED. It begins at the byte position `from` of the text, and it is malformed for this reason
-- from the position `byte` on.
pub record IsMalformedAt (text : List ℕ) (from : ℕ) (why : MalformedReason) (byte : ℕ) : Type 0 where
  pub within : byte ≤ length text
  pub is : IsMalformedFrom NameWord (drop (from + 2) text) why (drop byte text)

-- a malformed placeholder with this fault begins at the byte position `from` of the text
abbrev pub HasMalformedAt : List ℕ → ℕ → GrokPatternError → Type 0
HasMalformedAt text from fault = IsOpenAt text from × IsFaultFrom NameWord (drop (from + 2) text) fault
