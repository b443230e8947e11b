-- What can be done about a refusal.
use Rattle.std.specs.Prelude.{ℕ, List, codes}
use Rattle.oniguruma_syntax.specs.declared.refusal.Reason.{Reason}
use Rattle.oniguruma_syntax.specs.declared.refusal.Reason.TheVariants.{Lookaround, Backreference, Call, Condition, Absent, UnknownGroup, UnknownFlags, Unclosed, Unopened, NothingToRepeat, Counts, Escape, Code, Property, Range, EmptySide, PlaceholderInClass, PlaceholderInExtended, NamedGroup, InlineDefinition}

-- The advice for a form that has no advice of its own.
abbrev pub write_otherwise : List ℕ
write_otherwise = codes "write it in another way"

-- The advice for brackets that don't match.
abbrev pub close_each : List ℕ
close_each = codes "close each group and each class"

-- The advice for each reason.
abbrev pub advice_for : Reason → List ℕ
advice_for Lookaround = codes "write it without the lookaround, or use --loose, which drops it"
advice_for Backreference = write_otherwise
advice_for Call = write_otherwise
advice_for Condition = write_otherwise
advice_for Absent = write_otherwise
advice_for UnknownGroup = write_otherwise
advice_for UnknownFlags = write_otherwise
advice_for Unclosed = close_each
advice_for Unopened = close_each
advice_for NothingToRepeat = write_otherwise
advice_for Counts = write_otherwise
advice_for Escape = write_otherwise
advice_for Code = write_otherwise
advice_for Property = write_otherwise
advice_for Range = codes "write \\- for a hyphen that stands for itself"
advice_for EmptySide = write_otherwise
advice_for PlaceholderInClass = codes "write \\[ for the bracket itself"
advice_for PlaceholderInExtended = codes "write the pattern without the flag x"
advice_for NamedGroup = codes "make what is inside it a definition NAME, and write %{NAME:KEY} for the group"
advice_for InlineDefinition = codes "make it a definition of its own, by -d or -D"
