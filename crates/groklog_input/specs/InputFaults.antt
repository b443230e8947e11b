-- Which fault reports why answering the lines of an input ended.
use Rattle.std.specs.Prelude.{◌≡◌, Option, Some, None, MatchOption}
use Rattle.std.specs.declared.io.ErrorKind.{ErrorKind}
use Rattle.std.specs.declared.io.ErrorKind.TheVariants.{Other}
use Rattle.grok_lines.specs.declared.error.LinesError.{LinesError}
use Rattle.grok_lines.specs.declared.error.LinesError.TheVariants as lines
use Rattle.groklog_reports.specs.Faults.{IsFaultOfFile, IsFaultOfWrite}
use Rattle.groklog_reports.specs.declared.fault.RunFault.{RunFault}
use Rattle.groklog_reports.specs.declared.fault.RunFault.TheVariants.{Memory}
use Rattle.groklog_reports.specs.declared.file_failure.FileFailure.{FileFailure}

-- The kind of a failure, or `Other` if none is known.
abbrev pub kind_of : Option FileFailure → ErrorKind
kind_of None = Other
kind_of (Some failure) = failure.kind

-- `found` reports why answering lines ended. If reading failed, `failure` says why.
abbrev pub IsFaultOfLines : Option FileFailure → LinesError → Option RunFault → Type 0
IsFaultOfLines failure lines.Memory found = found ≡ Some Memory
IsFaultOfLines failure lines.Read found = MatchOption found ⊥ (IsFaultOfFile (kind_of failure))
IsFaultOfLines failure (lines.Write error) found = IsFaultOfWrite error found
