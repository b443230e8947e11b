-- What compiling a pattern returns.
use Rattle.std.specs.Prelude.{◌≡◌, ◌≢◌, ℕ, ◌<◌, ◌^◌, Bool, List, [], ◌++◌, length, map, codes, Option, Some, None, Result, MatchResult}
use Rattle.std.specs.FinMap as finite
use Rattle.grok_parser.specs.Texts.{IsFaultText}
use Rattle.grok.specs.Maps.{Texts}
use Rattle.grok.specs.Tree.{Fault, MalformedPiece, Missing, TooDeep, Event, tree, first_structural}
use Rattle.grok.specs.Keys.{TreeFault, Structural, Clash, first_fault, keys, capturing, extract_of}
use Rattle.grok.specs.KeyNumbers.{numbers}
use Rattle.grok.specs.Expanded.{expanded}
use Rattle.grok.specs.KeyTable.{IsKeyTable}
use Rattle.grok.specs.Answers.{PatternValue}
use Rattle.grok.specs.Errors.{ErrorValue, RecursionTooDeep, CompiledPatternIsEmpty, DefinitionNotFound, RegexCompilationFailed, GenericCompilationFailure, Memory, error_value}
use Rattle.grok.specs.declared.engine.Refusal.{Refusal}
use Rattle.grok.specs.declared.engine.Refusal.TheVariants as refusal
use Rattle.grok.specs.declared.errors.error.Error.{Error}

-- ---- errors of faults

-- The error is a `GenericCompilationFailure` with a message for which `is_message` holds.
abbrev pub FailsWith : (List ℕ → Type 0) → ErrorValue → Type 0
FailsWith is_message (GenericCompilationFailure message) = is_message message
FailsWith is_message error = ⊥

-- `error` is the error for this structural fault (a malformed placeholder, a missing definition, or nesting that is
-- too deep). The message for a malformed placeholder is what Debug shows of its fault.
abbrev pub IsFaultError : Fault → ErrorValue → Type 0
IsFaultError (MalformedPiece fault) error = FailsWith (IsFaultText fault) error
IsFaultError (Missing name) error = error ≡ DefinitionNotFound name
IsFaultError TooDeep error = error ≡ RecursionTooDeep

-- `error` is the error for this fault: a structural fault, or a clash (two placeholders would get the same key). The
-- message for a clash names the key: `Alias a[1] already exists`.
abbrev pub IsErrorOf : TreeFault → ErrorValue → Type 0
IsErrorOf (Structural fault) error = IsFaultError fault error
IsErrorOf (Clash key) error = error ≡ GenericCompilationFailure (codes "Alias "
    ++ (key ++ codes " already exists"))

-- The error if an engine isn't built from this text: `Memory` if an allocation failed, and otherwise an error
-- that contains the text.
abbrev pub error_of_refusal : Refusal → List ℕ → ErrorValue
error_of_refusal refusal.Memory text = Memory
error_of_refusal refusal.Refused text = RegexCompilationFailed (codes "Regex compilation failed:\n" ++ text)

-- the tree has a fault, and `error` is the error for the first one
pub record IsFirstError (alias_only : Bool) (tree : List Event) (error : ErrorValue) : Type 0 where
  pub tree_fault : TreeFault
  pub first : first_fault alias_only tree ≡ Some tree_fault
  pub is : IsErrorOf tree_fault error

-- ---- patterns

-- The engine of `pattern` was built from the text `source`. Its placeholders have the keys `given` with the numbers
-- `numbers`. The key table of `pattern` (each key with its group) is the one for these keys and the engine's group names,
-- and `extract` returns the extract of each key.
pub record IsBuilt {E : Type 0} (source_of : E → List ℕ) (group_names : E
    → List (Option (List ℕ))) (source : List ℕ) (given : List (List ℕ)) (numbers : List ℕ) (extract : List ℕ
    → Option (List ℕ)) (pattern : PatternValue E) : Type 0 where
  pub text : source_of pattern.engine ≡ source
  pub given_keys : map (λ placeholder. placeholder.0) pattern.placeholders ≡ given
  pub given_numbers : map (λ placeholder. placeholder.1) pattern.placeholders ≡ numbers
  pub keys : IsKeyTable given (group_names pattern.engine) pattern.keys
  pub extracts : (key : List ℕ) → finite.get pattern.extracts key ≡ extract key

-- the engine may refuse the text, and the error is the one for that refusal
pub data IsRefusal (may_refuse : List ℕ → Type 0) (text : List ℕ) : ErrorValue → Type 0 where
  Refused : may_refuse text → IsRefusal may_refuse text (error_of_refusal refusal.Refused text)

-- ---- the result

-- What is compiled: a pattern, its tree (what its placeholders stand for, as events in reading order), and
-- whether only placeholders with an alias capture.
pub record Expansion : Type 0 where
  pub alias_only : Bool
  pub pattern : List ℕ
  pub tree : List Event

-- what is compiled for a pattern with the definitions `texts`
abbrev pub expansion_of : Texts → Bool → List ℕ → Expansion
expansion_of texts alias_only pattern = record { alias_only = alias_only; pattern = pattern; tree = tree (finite.get texts) pattern }

-- the expanded text is not longer than the greatest `usize`
abbrev pub Fits : Expansion → Type 0
Fits e = length (expanded e.alias_only e.tree) < 2 ^ 64

-- The pattern has no fault, and its expanded text isn't longer than the greatest `usize`.
pub record CanBuild (e : Expansion) : Type 0 where
  pub clean : first_fault e.alias_only e.tree ≡ None
  pub fits : Fits e

-- WHEN EACH ERROR IS RETURNED. The empty pattern has an error of its own. Any other pattern has the error of
-- its first fault. (If that is a clash and the tree is clean, the text must also fit a `usize`.) If there is no
-- fault, the engine's refusal is returned, but only for a text that the engine may refuse. `Memory` is allowed
-- for any pattern but the empty one, and it is the only error for a text without a fault that doesn't fit.
pub data IsCompileError (may_refuse : List ℕ → Type 0) (e : Expansion) : ErrorValue → Type 0 where
  Empty : e.pattern ≡ [] → IsCompileError may_refuse e (CompiledPatternIsEmpty [])
  First : (error : ErrorValue) → e.pattern ≢ [] → IsFirstError e.alias_only e.tree error
      → (first_structural e.tree ≡ None → Fits e) → IsCompileError may_refuse e error
  Unbuilt : (error : ErrorValue) → e.pattern ≢ [] → CanBuild e
      → IsRefusal may_refuse (expanded e.alias_only e.tree) error
      → IsCompileError may_refuse e error
  NoMemory : e.pattern ≢ [] → IsCompileError may_refuse e Memory

-- which texts may be refused by an engine that refuses nothing: none
abbrev pub NeverRefuses : List ℕ → Type 0
NeverRefuses text = ⊥

-- the error is one that compiling may return with an engine that refuses nothing
abbrev pub IsExpansionError : Expansion → Error → Type 0
IsExpansionError e error = IsCompileError NeverRefuses e (error_value error)

-- THE COMPILED PATTERN. It is built from the expanded text of a pattern without a fault, and has the keys of
-- its capturing placeholders, with their numbers and their extracts.
pub record IsPatternOf {E : Type 0} (source_of : E → List ℕ) (group_names : E → List (Option (List ℕ)))
    (e : Expansion) (pattern : PatternValue E) : Type 0 where
  pub some : e.pattern ≢ []
  pub can : CanBuild e
  pub built : IsBuilt source_of group_names (expanded e.alias_only e.tree)
      (keys (capturing e.alias_only e.tree))
      (numbers (capturing e.alias_only e.tree))
      (extract_of e.alias_only e.tree) pattern

-- THE RESULT OF COMPILING: the compiled pattern, or one of the errors above.
abbrev pub Compiles : {E : Type 0} → (E → List ℕ) → (E → List (Option (List ℕ))) → (List ℕ → Type 0)
    → Expansion
    → Result (PatternValue E) Error → Type 0
Compiles source_of group_names may_refuse e r =
    MatchResult r (IsPatternOf source_of group_names e) (λ error. IsCompileError may_refuse e
    (error_value error))
