-- Whether an error is a failure of the output, and the text of each error.
use Rattle.std.specs.Prelude.{ℕ, List, Option, Some, None, Result, Ok, Err, codes}
use Rattle.grok_lines.specs.declared.error.LinesError.{LinesError}
use Rattle.grok_lines.specs.declared.error.LinesError.TheVariants.{Memory, Read, Write}

-- the error is that the output failed, for whatever reason
abbrev pub IsWriteError : LinesError → Type 0
IsWriteError Memory = ⊥
IsWriteError Read = ⊥
IsWriteError (Write reason) = Unit {0}

-- `Holds` is true, unless the result is the error that the output failed
abbrev pub UnlessWriteFailed : {A : Type 0} → Result A LinesError → Type 0 → Type 0
UnlessWriteFailed (Ok a) Holds = Holds
UnlessWriteFailed (Err Memory) Holds = Holds
UnlessWriteFailed (Err Read) Holds = Holds
UnlessWriteFailed (Err (Write reason)) Holds = Unit {0}

-- The text that Display shows. The system's words for a failure of the output aren't specified.
abbrev pub lines_error_text : LinesError → Option (List ℕ)
lines_error_text Memory = Some (codes "Out of memory")
lines_error_text Read = Some (codes "read failed")
lines_error_text (Write reason) = None
