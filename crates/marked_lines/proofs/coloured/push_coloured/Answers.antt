-- The law about the codes of colours holds whatever the outcome is.
use Rattle.marked_lines.proofs.CodesAreTakenOff.{codes_taken_off}
use Rattle.marked_lines.proofs.coloured.push_coloured.Goals as goal

pub returns-in_err-push_run-clause-text : goal.returns-in_err-push_run-clause-text
returns-in_err-push_run-clause-text c = codes_taken_off _

pub returns-clause-text : goal.returns-clause-text
returns-clause-text c = codes_taken_off _
