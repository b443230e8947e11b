-- What contracts see of a part that is wrong, the text and the exit status of each fault, and which fault reports
-- which failure.
use Rattle.std.specs.Prelude.{◌≡◌, ◌≢◌, ℕ, List, [], ◌∷◌, ◌++◌, Option, Some, None, MatchOption, codes, flat_map, string_bytes}
use Rattle.std.specs.IoError.{error_kind, raw_os_error}
use Rattle.std.specs.declared.io.Error.{Error}
use Rattle.std.specs.declared.io.ErrorKind.{ErrorKind}
use Rattle.std.specs.declared.io.ErrorKind.TheVariants.{OutOfMemory, BrokenPipe}
use Rattle.groklog_reports.specs.Visible.{visible}
use Rattle.groklog_reports.specs.declared.file_failure.FileFailure.{FileFailure}
use Rattle.groklog_reports.specs.declared.fault.FaultyPart.{FaultyPart}
use Rattle.groklog_reports.specs.declared.fault.Report.{Report}
use Rattle.groklog_reports.specs.declared.fault.RunFault.{RunFault}
use Rattle.groklog_reports.specs.declared.fault.RunFault.TheVariants.{Pattern, Usage, Memory, Read, Write}

-- Two lines: a part of a text with some of the text around it, and the carets under the part.
abbrev pub excerpt_text : List ℕ → List ℕ → List ℕ
excerpt_text text carets = visible text ++ (codes "\n    " ++ visible carets)

-- What is written of a part that is wrong: where its text is, and two lines that show it.
abbrev pub part_texts : FaultyPart → List ℕ × List ℕ
part_texts part = (string_bytes part.location, string_bytes part.excerpt)

-- The exit status is 1 for a fault of a pattern or a definition, 2 for wrong options, and 3 if an
-- allocation, reading or writing failed.
abbrev pub fault_status : RunFault → ℕ
fault_status (Pattern report) = 1
fault_status (Usage report) = 2
fault_status Memory = 3
fault_status (Read report) = 3
fault_status (Write report) = 3

-- ---- the text of a fault

-- Where the text of a part is, and on the next lines its excerpt.
abbrev pub part_text : FaultyPart → List ℕ
part_text part = string_bytes part.location ++ codes ":\n" ++ (codes "    " ++ string_bytes part.excerpt ++ codes "\n")

-- the first part, and then each further one
abbrev pub parts_text : List FaultyPart → List ℕ
parts_text [] = []
parts_text (first ∷ more) = codes "  in " ++ part_text first ++ flat_map (λ part. codes "  and in " ++ part_text part) more

-- The advice, or nothing if it is empty.
abbrev pub advice_text : List ℕ → List ℕ
advice_text [] = []
advice_text (x ∷ xs) = codes "  try: " ++ (x ∷ xs) ++ codes "\n"

-- What is wrong, where, and what to do.
abbrev pub report_text : Report → List ℕ
report_text report = codes "groklog: " ++ string_bytes report.what ++ codes "\n"
    ++ parts_text report.parts.items ++ advice_text (string_bytes report.advice)

-- The text that Display shows.
abbrev pub fault_text : RunFault → List ℕ
fault_text (Pattern report) = report_text report
fault_text (Usage report) = report_text report
fault_text Memory = codes "groklog: out of memory\n"
fault_text (Read report) = report_text report
fault_text (Write report) = report_text report

-- ---- which fault reports which failure

-- The fault reports that a file can't be read.
abbrev pub IsReadFault : RunFault → Type 0
IsReadFault (Pattern report) = ⊥
IsReadFault (Usage report) = ⊥
IsReadFault Memory = ⊥
IsReadFault (Read report) = Unit {0}
IsReadFault (Write report) = ⊥

-- The fault reports that the output can't be written.
abbrev pub IsWriteFault : RunFault → Type 0
IsWriteFault (Pattern report) = ⊥
IsWriteFault (Usage report) = ⊥
IsWriteFault Memory = ⊥
IsWriteFault (Read report) = ⊥
IsWriteFault (Write report) = Unit {0}

-- The fault reports that an allocation, reading or writing failed.
abbrev pub IsDeviceFault : RunFault → Type 0
IsDeviceFault (Pattern report) = ⊥
IsDeviceFault (Usage report) = ⊥
IsDeviceFault Memory = Unit {0}
IsDeviceFault (Read report) = Unit {0}
IsDeviceFault (Write report) = Unit {0}

-- why a call failed that returned this error: its kind, and the number of the system if there is one
abbrev pub failure_of : Error → FileFailure
failure_of error = record { kind = error_kind error; number = raw_os_error error }

-- The fault reports that a file couldn't be opened or read: `Memory` if an allocation failed, and otherwise `Read`.
abbrev pub IsFaultOfFile : ErrorKind → RunFault → Type 0
IsFaultOfFile kind fault = (kind ≡ OutOfMemory → fault ≡ Memory) × (kind ≢ OutOfMemory → IsReadFault fault)

-- `found` reports that writing failed with `error`. If the reader of the output closed the pipe, there is nothing to
-- report.
abbrev pub IsFaultOfWrite : Error → Option RunFault → Type 0
IsFaultOfWrite error found = (error_kind error ≡ BrokenPipe → found ≡ None)
    × (error_kind error ≢ BrokenPipe → MatchOption found ⊥ IsWriteFault)
