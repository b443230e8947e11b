-- The text of each fault of a run.
use Rattle.std.specs.Prelude.{ℕ, List, codes}
use Rattle.grok.specs.Errors.{error_value, error_text}
use Rattle.grok_commands.specs.Commands.{usage_text}
use Rattle.grok_lines.specs.declared.error.LinesError.{LinesError}
use Rattle.grok_lines.specs.declared.error.LinesError.TheVariants as lines
use Rattle.grok_commands.specs.declared.fault.ToolFault.{ToolFault}
use Rattle.grok_commands.specs.declared.fault.ToolFault.TheVariants.{Pattern, Usage, Memory, Read, Write}

-- the text that Display shows
abbrev pub fault_text : ToolFault → List ℕ
fault_text (Pattern error) = error_text (error_value error)
fault_text Usage = usage_text
fault_text Memory = codes "Out of memory"
fault_text Read = codes "read failed"
fault_text Write = codes "write failed"

-- the fault of a run in which answering lines ended with this error
abbrev pub fault_of_lines : LinesError → ToolFault
fault_of_lines lines.Memory = Memory
fault_of_lines lines.Read = Read
fault_of_lines (lines.Write reason) = Write
