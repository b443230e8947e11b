-- Whether something was built from a text, or why not. What can be built, and what is refused, are parameters, as in the
-- contract of what builds: for `regex` with its defaults they are `IsRegexOf` and `IsDefaultFailure`.
use Rattle.std.specs.Prelude.{◌≡◌, ◌⊎◌, ℕ, List}
use Rattle.regex.specs.declared.error.Error.{Error}
use Rattle.regex.specs.declared.error.Error.TheVariants as regex_error
use Rattle.regex_syntax.specs.declared.error.ErrorKind.TheVariants.{GroupUnclosed, GroupUnopened}
use Rattle.grok.specs.declared.why_refused.RefusalReason.{RefusalReason}
use Rattle.grok.specs.declared.why_refused.RefusalReason.TheVariants.{Syntax, TooBig}

-- something was built from the text
pub record IsAccepted {E : Type 0} (is_built_from : E → List ℕ → Type 0) (text : List ℕ) : Type 0 where
  pub built : E
  pub is : is_built_from built text

-- the error of `regex` for this reason
abbrev pub regex_error_of : RefusalReason → Error
regex_error_of (Syntax error) = regex_error.Syntax error
regex_error_of TooBig = regex_error.CompiledTooBig

-- the text was refused for this reason
abbrev pub IsReasonFor : (refuses : List ℕ → Error → Type 0) → List ℕ → RefusalReason → Type 0
IsReasonFor refuses text reason = refuses text (regex_error_of reason)

-- the reason is an error of syntax, and not the size
abbrev pub IsOfSyntax : RefusalReason → Type 0
IsOfSyntax (Syntax error) = Unit {0}
IsOfSyntax TooBig = ⊥

-- a group isn't closed, or a `)` closes none
abbrev pub IsOfBrackets : RefusalReason → Type 0
IsOfBrackets (Syntax error) = (error.kind ≡ GroupUnclosed) ⊎ (error.kind ≡ GroupUnopened)
IsOfBrackets TooBig = ⊥
