use Rattle.std.proofs.Common.{◌≡◌, ℕ, List, drop, map}
use Rattle.std.specs.Io.KnownBytes.{append_known}
use Rattle.grok.specs.Measured.{Measured, measure_view}
use Rattle.grok_commands.specs.Commands.{texts}
use Rattle.grok_commands.proofs.FirstAnswersHaveGoneOut.{Answered}
use Rattle.grok_commands.specs.SizeTexts.{IsMeasuredLine}
use Rattle.grok_commands.proofs.check.hold_lines.Given as goal

abbrev pub invariant-lines : goal.invariant-lines
invariant-lines g l = (sizes : List ℕ → Measured) → map measure_view l.measures ≡ map sizes (texts l.names)
    → Answered (λ (name : List ℕ). IsMeasuredLine (sizes name) name) (texts l.names) (texts (drop l.index l.names)) (append_known (g.W.Write.contents l.fn.output) l.fn.held.items) (append_known (g.W.Write.contents l.output) l.held.items)
