-- What the pattern of a user is compiled to, or why it isn't compiled.
use Rattle.std.specs.Prelude.{◌≢◌, ℕ, ◌<◌, Bool, true, false, List, ⊤, ◌⊎◌}
use Rattle.grok.specs.Maps.{Texts}
use Rattle.grok.specs.Answers.{PatternValue}
use Rattle.grok.specs.Compiled.{IsPatternOf, IsCompileError, expansion_of}
use Rattle.grok.specs.Measured.{Measured, Faulty, Sized, TooLong, measured_tree, tree_of}
use Rattle.grok.specs.Errors as errors
use Rattle.grok.specs.Errors.{ErrorValue}
use Rattle.grok.specs.RegexFinds.{MayRefuse}
use Rattle.grok.specs.Engines.{engine_regex}
use Rattle.grok.specs.declared.engine.regex_engine.RegexEngine.{RegexEngine}
use Rattle.regex.specs.Strings.{regex_source, regex_names}
use Rattle.groklog_definitions.specs.declared.compiled.CompileRefusal.{CompileRefusal}
use Rattle.groklog_definitions.specs.declared.compiled.CompileRefusal.TheVariants.{TooLarge, Invalid, Memory}
use Rattle.groklog_definitions.specs.declared.library.Limit.{Limit}

-- The pattern is what the library compiles from the text, with these definitions and in this mode.
abbrev pub IsCompiledFrom : Texts → Bool → List ℕ → PatternValue RegexEngine → Type 0
IsCompiledFrom definitions alias_only text pattern =
    IsPatternOf (λ engine. regex_source (engine_regex engine)) (λ engine. regex_names (engine_regex engine))
    (expansion_of definitions alias_only text) pattern

-- The contract of `compile` allows an error that isn't `Memory` for this text, with these definitions and in this
-- mode: the text is empty or has a fault, or `regex` may refuse what it expands to.
pub record IsRefusedText (definitions : Texts) (alias_only : Bool) (text : List ℕ) : Type 0 where
  pub error : ErrorValue
  pub is : IsCompileError MayRefuse (expansion_of definitions alias_only text) error
  pub not_memory : error ≢ errors.Memory

-- A pattern that was measured has no structural fault, and its expanded text has more bytes than the limit allows, or
-- more groups of placeholders.
abbrev pub IsPast : Limit → Measured → Type 0
IsPast limit (Faulty fault) = ⊥
IsPast limit (Sized length groups nesting) = (limit.bytes < length) ⊎ (limit.groups < groups)
IsPast limit TooLong = ⊤

-- The `Bool` says whether the measured pattern is larger than the limit allows.
abbrev pub IsPastOrNot : Limit → Measured → Bool → Type 0
IsPastOrNot limit measured true = IsPast limit measured
IsPastOrNot limit measured false = IsPast limit measured → ⊥

-- The expanded text of the pattern, with these definitions and in this mode, is larger than the limit allows.
abbrev pub IsTooLarge : Texts → Bool → Limit → List ℕ → Type 0
IsTooLarge definitions alias_only limit text = IsPast limit (measured_tree alias_only (tree_of definitions text))

-- The `Bool` says whether the expanded text of the pattern is larger than the limit allows.
abbrev pub IsTooLargeOrNot : Texts → Bool → Limit → List ℕ → Bool → Type 0
IsTooLargeOrNot definitions alias_only limit text = IsPastOrNot limit (measured_tree alias_only (tree_of definitions text))

-- The `CompileRefusal` is the reason why a pattern isn't compiled: `is_too_large` holds, or `is_refused` holds, or an allocation
-- failed.
abbrev pub IsRefusal : (is_too_large is_refused : Type 0) → CompileRefusal → Type 0
IsRefusal is_too_large is_refused TooLarge = is_too_large
IsRefusal is_too_large is_refused Invalid = is_refused
IsRefusal is_too_large is_refused Memory = Unit {0}
