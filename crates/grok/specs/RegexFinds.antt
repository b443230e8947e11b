-- What `regex` builds from a text with its defaults, which texts it may refuse, and what it finds in a
-- line.
use Rattle.std.specs.Prelude.{◌≡◌, ◌≢◌, ℕ, ◌≤◌, ◌+◌, ◌*◌, ◌^◌, List}
use Rattle.regex.specs.Strings.{regex_source, regex_size, IsDefaultFailure}
use Rattle.regex.specs.declared.string.regex.Regex.{Regex}
use Rattle.regex.specs.declared.error.Error.{Error}
use Rattle.regex.specs.declared.error.Error.TheVariants.{Internal, OutOfMemory}
-- regex_shared defines what the shared search of a regex finds.
pub use Rattle.regex_shared.specs.Texts.{IsReadByDefault, text_at, texts_at, span_of_group, captures_in, captures_by}

-- The regex is within the size that `regex` allows by default: 10 MiB for its tables, but for a few bytes.
abbrev pub IsWithinLimit : Regex → Type 0
IsWithinLimit regex = regex_size regex ≤ 10 * 2 ^ 20 + 24

-- The regex was built from the text, with the defaults of `regex`: without flags, and within its limit on size.
pub record IsRegexOf (built : Regex) (text : List ℕ) : Type 0 where
  pub source : regex_source built ≡ text
  pub read : IsReadByDefault built
  pub small : IsWithinLimit built

-- `regex` may refuse the text: its own contract allows an error for it other than that memory ran out. By that
-- contract the text is no regular expression, or is nested too deeply, or would be too big.
abbrev pub MayRefuse : List ℕ → Type 0
MayRefuse text = (error : Error) × IsDefaultFailure text error × (error ≢ OutOfMemory) × (error ≢ Internal)
