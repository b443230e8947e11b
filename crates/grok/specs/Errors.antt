-- What an error holds, and the text that it shows.
use Rattle.std.specs.Prelude.{ℕ, List, ◌++◌, codes, string_bytes}
use Rattle.grok.specs.declared.errors.error.Error.{Error}
use Rattle.grok.specs.declared.errors.error.Error.TheVariants as rust

-- an error as contracts see it: its kind, and the bytes of its text if it has one
pub data ErrorValue : Type 0 where
  RecursionTooDeep : ErrorValue
  CompiledPatternIsEmpty : (pattern : List ℕ) → ErrorValue
  DefinitionNotFound : (name : List ℕ) → ErrorValue
  RegexCompilationFailed : (words : List ℕ) → ErrorValue
  GenericCompilationFailure : (words : List ℕ) → ErrorValue
  Memory : ErrorValue

-- what contracts see of an error
abbrev pub error_value : Error → ErrorValue
error_value rust.RecursionTooDeep = RecursionTooDeep
error_value (rust.CompiledPatternIsEmpty pattern) = CompiledPatternIsEmpty (string_bytes pattern)
error_value (rust.DefinitionNotFound name) = DefinitionNotFound (string_bytes name)
error_value (rust.RegexCompilationFailed words) = RegexCompilationFailed (string_bytes words)
error_value (rust.GenericCompilationFailure words) = GenericCompilationFailure (string_bytes words)
error_value rust.Memory = Memory

-- the text of an error, as Display shows it
abbrev pub error_text : ErrorValue → List ℕ
error_text RecursionTooDeep = codes "Recursion while compiling reached the limit of 1024"
error_text (CompiledPatternIsEmpty pattern) = codes "The given pattern \""
    ++ (pattern ++ codes "\" ended up compiling into an empty regex")
error_text (DefinitionNotFound name) = codes "The given pattern definition name \""
    ++ (name ++ codes "\" could not be found in the definition map")
error_text (RegexCompilationFailed words) = codes "The given regex \""
    ++ (words ++ codes "\" failed compilation in the underlying engine")
error_text (GenericCompilationFailure words) = codes "Something unexpected happened during the compilation phase: \"" ++ (words ++ codes "\"")
error_text Memory = codes "Out of memory"
