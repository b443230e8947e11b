-- What expanding a pattern returns: what compiling it returns before an engine is built.
use Rattle.std.specs.Prelude.{◌≡◌, ◌≢◌, [], Result, MatchResult, string_bytes}
use Rattle.grok.specs.Expanded.{expanded}
use Rattle.grok.specs.steps.AssignedKeys.{HasKeys}
use Rattle.grok.specs.Compiled.{Expansion, CanBuild, IsExpansionError}
use Rattle.grok.specs.declared.write.ExpandedPattern.{ExpandedPattern}
use Rattle.grok.specs.declared.errors.error.Error.{Error}

-- The pattern isn't empty and has no fault, and `found` has its expanded text and its keys.
pub record IsExpansionOf (e : Expansion) (found : ExpandedPattern) : Type 0 where
  pub some : e.pattern ≢ []
  pub can : CanBuild e
  pub text : string_bytes found.text ≡ expanded e.alias_only e.tree
  pub keys : HasKeys e.alias_only e.tree found.keys

-- THE RESULT OF EXPANDING a pattern: its expanded text and its keys, or one of the errors of compiling
abbrev pub Expands : Expansion → Result ExpandedPattern Error → Type 0
Expands e r = MatchResult r (IsExpansionOf e) (IsExpansionError e)
