-- What the functions of the parser return that read a part of a placeholder.
use Rattle.std.specs.Prelude.{◌≡◌, ◌≢◌, ℕ, List, Result, Ok, Err}
use Rattle.grok_parser.specs.Ascii.{close_brace}
use Rattle.grok_parser.specs.Malformations.{fault_of, IsDefinitionMalformed}
use Rattle.grok_parser.specs.declared.malformed.GrokPatternError.{GrokPatternError}
use Rattle.grok_parser.specs.declared.placeholder.Word.{Word}
use Rattle.grok_parser.specs.declared.malformed.MalformedReason.{MalformedReason}
use Rattle.grok_parser.specs.declared.malformed.Malformation.{Malformation}

-- What a function of the code returned is the same as `read`, the result of a definition in `Pieces`: the fault of its
-- reason, or a value from which `view` makes the same value.
abbrev pub IsReadingOf : {X Y : Type 0} → (X → Y) → Result X Malformation → Result Y GrokPatternError → Type 0
IsReadingOf view (Ok x) read = read ≡ Ok (view x)
IsReadingOf view (Err found) read = read ≡ Err (fault_of found.reason)

-- a definition follows this word, and is malformed for this reason, from `rest` on
abbrev pub IsDefinitionUnread : Word → MalformedReason → (rest : List ℕ) → Type 0
IsDefinitionUnread last why rest = (last.terminator ≢ close_brace) × IsDefinitionMalformed last.rest.now why rest
