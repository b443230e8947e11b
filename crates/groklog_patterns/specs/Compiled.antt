-- The patterns of a run, and what is reported of one that isn't compiled.
use Rattle.std.specs.Prelude.{◌≡◌, ◌⊎◌, string_bytes}
use Rattle.grok.specs.Maps.{Texts}
use Rattle.groklog_reports.specs.declared.fault.RunFault.{RunFault}
use Rattle.groklog_reports.specs.declared.fault.RunFault.TheVariants.{Pattern, Usage, Memory, Read, Write}
use Rattle.groklog_definitions.specs.Compiled.{IsCompiledFrom, IsRefusedText, IsTooLarge}
use Rattle.groklog_definitions.specs.declared.library.Limit.{Limit}
use Rattle.groklog_definitions.specs.declared.pattern_text.PatternText.{PatternText}
use Rattle.groklog_patterns.specs.declared.compiled.RunPattern.{RunPattern}

-- THE PATTERN OF A RUN that this text becomes, with these definitions: it has the text and what the library compiles from
-- it, which isn't larger than the limit allows.
pub record IsRunPattern (definitions : Texts) (limit : Limit) (text : PatternText) (pattern : RunPattern) : Type 0 where
  pub same_text : pattern.text ≡ text
  pub is : IsCompiledFrom definitions text.with_alias_only (string_bytes text.text) pattern.pattern
  pub within : IsTooLarge definitions text.with_alias_only limit (string_bytes text.text) → ⊥

-- The pattern is faulty, or its expanded text is larger than the limit allows.
abbrev pub IsRefused : Texts → Limit → PatternText → Type 0
IsRefused definitions limit text = IsRefusedText definitions text.with_alias_only (string_bytes text.text)
    ⊎ IsTooLarge definitions text.with_alias_only limit (string_bytes text.text)

-- The `RunFault` is that of a pattern, and `is_refused` holds, or an allocation failed.
abbrev pub IsCompileFault : Type 0 → RunFault → Type 0
IsCompileFault is_refused (Pattern report) = is_refused
IsCompileFault is_refused (Usage report) = ⊥
IsCompileFault is_refused Memory = Unit {0}
IsCompileFault is_refused (Read report) = ⊥
IsCompileFault is_refused (Write report) = ⊥
