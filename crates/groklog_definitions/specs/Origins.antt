-- Where definitions were given.
use Rattle.std.specs.Prelude.{Bool, true, false}
use Rattle.groklog_definitions.specs.declared.definitions.Origin.{Origin}
use Rattle.groklog_definitions.specs.declared.definitions.Origin.TheVariants.{Default, Common, Line, Word}

-- Whether a definition is one of the user's: it was given in a file or on the command line, and isn't built in.
abbrev pub is_own : Origin → Bool
is_own Default = false
is_own Common = false
is_own (Line file number) = true
is_own Word = true
