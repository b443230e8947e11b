-- How Display and Debug show pieces and their faults.
use Rattle.std.specs.Prelude.{◌≡◌, ℕ, List, ◌++◌, Option, Some, IfSome, codes}
use Rattle.std.specs.Fmt.{debug_char, debug_str, ◌++?◌}
use Rattle.grok_parser.specs.Pieces.{Piece, Regular, Placeholder, Malformed}
use Rattle.grok_parser.specs.declared.malformed.GrokPatternError.{GrokPatternError}
use Rattle.grok_parser.specs.declared.malformed.GrokPatternError.TheVariants.{InvalidCharacter, InvalidPattern, InvalidPatternDefinition}
use Rattle.grok_parser.specs.declared.parser.GrokComponent.{GrokComponent}
use Rattle.grok_parser.specs.declared.parser.GrokComponent.TheVariants.{RegularExpression, GrokPattern, PatternError}

-- How Debug shows a fault. This isn't specified if the character in the fault isn't ASCII.
abbrev pub fault_words : GrokPatternError → Option (List ℕ)
fault_words (InvalidCharacter c) = Some (codes "InvalidCharacter(") ++? (debug_char c ++? Some (codes ")"))
fault_words InvalidPattern = Some (codes "InvalidPattern")
fault_words InvalidPatternDefinition = Some (codes "InvalidPatternDefinition")

-- `words` is how Debug shows the fault, such as `InvalidCharacter('!')`. How it shows a character that isn't ASCII
-- isn't specified, but what stands around that character is.
abbrev pub IsFaultText : GrokPatternError → List ℕ → Type 0
IsFaultText (InvalidCharacter c) words = (shown : List ℕ) × IfSome (debug_char c) (λ known. shown ≡ known)
    × (words ≡ codes "InvalidCharacter(" ++ (shown ++ codes ")"))
IsFaultText fault words = IfSome (fault_words fault) (λ known. words ≡ known)

-- How Display shows a piece. This isn't specified if the character in its fault isn't ASCII.
abbrev pub component_text : GrokComponent → Option (List ℕ)
component_text (RegularExpression range string) = Some string.now
component_text (GrokPattern range pattern name alias extract definition) = Some pattern.now
component_text (PatternError e) = Some (codes "<error ") ++? (fault_words e ++? Some (codes ">"))

-- `shown` is how Display shows the piece: its text, or `<error F>` for a malformed placeholder with the fault F.
abbrev pub IsPieceText : Piece → List ℕ → Type 0
IsPieceText (Regular from to text) shown = shown ≡ text
IsPieceText (Placeholder from to text parts) shown = shown ≡ text
IsPieceText (Malformed fault) shown = (words : List ℕ) × IsFaultText fault words
    × (shown ≡ codes "<error " ++ (words ++ codes ">"))

-- How Debug shows a piece. This isn't specified if a text in the piece isn't ASCII.
abbrev pub component_debug : GrokComponent → Option (List ℕ)
component_debug (RegularExpression range string) = debug_str string.now
component_debug (GrokPattern range pattern name alias extract definition) =
    Some (codes "%{ name=") ++? (debug_str name.now
    ++? (Some (codes " alias=") ++? (debug_str alias.now
    ++? (Some (codes " capture=") ++? (debug_str extract.now
    ++? (Some (codes " definition=") ++? (debug_str definition.now ++? Some (codes " }"))))))))
component_debug (PatternError e) = component_text (PatternError e)
