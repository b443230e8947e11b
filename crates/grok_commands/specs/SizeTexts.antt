-- What `measure` and `check` print of a measured pattern.
use Rattle.std.specs.Prelude.{◌≡◌, ℕ, Bool, List, [], ◌∷◌, ◌++◌, Option, Some, None, codes, decimal}
use Rattle.grok.specs.Maps.{Texts}
use Rattle.grok.specs.Measured.{Measured, Faulty, Sized, TooLong, tree_of, measured_tree}
use Rattle.grok.specs.Errors.{ErrorValue, error_text}
use Rattle.grok.specs.Compiled.{IsFaultError}
use Rattle.grok_commands.specs.Commands.{RequestValue}
use Rattle.grok_commands.specs.Library.{library_of}

-- `length L groups G nesting N`
abbrev pub size_text : ℕ → ℕ → ℕ → List ℕ
size_text length groups nesting = codes "length " ++ decimal length ++ codes " groups " ++ decimal groups
    ++ codes " nesting " ++ decimal nesting

-- what is printed for a size, or `None` if measuring found a fault
abbrev pub text_of_size : Measured → Option (List ℕ)
text_of_size (Faulty fault) = None
text_of_size (Sized length groups nesting) = Some (size_text length groups nesting)
text_of_size TooLong = Some (codes "too long")

-- the result of measuring a pattern with these definitions
abbrev pub measured_in : Texts → Bool → List ℕ → Measured
measured_in texts alias_only pattern = measured_tree alias_only (tree_of texts pattern)

-- ---- measure

-- the result of measuring a request's pattern
abbrev pub measure_of : RequestValue → Measured
measure_of request = measured_in (library_of request.definitions) request.alias_only request.pattern

-- the result of measuring is a fault, and `error` is an error for this fault
abbrev pub IsFaulty : Measured → ErrorValue → Type 0
IsFaulty (Faulty fault) error = IsFaultError fault error
IsFaulty (Sized length groups nesting) error = ⊥
IsFaulty TooLong error = ⊥

-- ---- check

-- `text` is the size, or the text of the fault's error
abbrev pub IsMeasuredText : Measured → List ℕ → Type 0
IsMeasuredText (Faulty fault) text = (error : ErrorValue) × IsFaultError fault error
    × (text ≡ error_text error)
IsMeasuredText (Sized length groups nesting) text = text ≡ size_text length groups nesting
IsMeasuredText TooLong text = text ≡ codes "too long"

-- `%{NAME}`
abbrev pub placeholder_of : List ℕ → List ℕ
placeholder_of name = codes "%{" ++ name ++ codes "}"

-- `line` is the name, `: `, the size or the text of the fault's error, and a line feed
abbrev pub IsMeasuredLine : Measured → List ℕ → List ℕ → Type 0
IsMeasuredLine size name line = (text : List ℕ) × IsMeasuredText size text
    × (line ≡ name ++ codes ": " ++ text ++ codes "\n")

-- `line` is what `check` writes for a definition: its name, and the size or fault of the pattern `%{NAME}`
abbrev pub IsCheckLine : Texts → Bool → List ℕ → List ℕ → Type 0
IsCheckLine texts alias_only name line = IsMeasuredLine (measured_in texts alias_only
    (placeholder_of name)) name line
