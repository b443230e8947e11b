use Rattle.std.proofs.Common.{rules, ◌≡◌, ◌∷◌, [], ℕ, List, drop, ap, ◌+◌, arith, string_bytes}
use Rattle.std.specs.Io.KnownBytes.{Appends, append_known}
use Rattle.std.proofs.lemmas.List.{drop_more, drop_all}
use Rattle.grok_lines.proofs.AppendsAddUp.{appends_still}
use Rattle.grok_commands.specs.Commands.{texts}
use Rattle.grok_commands.specs.SizeTexts.{IsMeasuredLine}
use Rattle.grok_commands.proofs.FirstAnswersHaveGoneOut.{answered_start, answered_step, answered_whole}
use Rattle.grok_commands.proofs.LinesHaveTheirMeasures.{line_at}
use Rattle.grok_commands.proofs.check.hold_lines.Goals as goal

pub lines-init : goal.lines-init
lines-init g c sizes is =
    answered_start (λ (name : List ℕ). IsMeasuredLine (sizes name) name) (texts c.args.names.now) (append_known (g.W.Write.contents c.args.output.now) c.args.held.now.items)

pub returns-in_err-write_line-clause-memory : goal.returns-in_err-write_line-clause-memory
returns-in_err-write_line-clause-memory g c h sizes is =
    let a = c.lines.invariant sizes is in
    (a.sent, texts (drop c.lines.index c.args.names.now), a.are, a.written)

pub returns-in_err-hold-clause-memory : goal.returns-in_err-hold-clause-memory
returns-in_err-hold-clause-memory g c h sizes is =
    let a = c.lines.invariant sizes is in
    (a.sent, texts (drop c.lines.index c.args.names.now), a.are, (a.written.0, a.written.1, appends_still _ _ _ a.written.0 a.written.2 (c.in_err-hold.ensures.memory (search rules))))

pub lines-preserved : goal.lines-preserved
lines-preserved g c sizes is =
    let items = c.args.names.now in
    let sent : Appends (append_known (g.W.Write.contents c.lines.output) c.lines.held.items) (append_known (g.W.Write.contents c.hold.new.output) c.hold.new.held.items) (string_bytes c.write_line.new.line) = rw c.as_bytes.ensures.value at c.in_ok-hold.ensures.ok in
    let left : texts (drop c.lines.index items) ≡ _ ∷ texts (drop (c.lines.index + 1) items) = ap texts (drop_more items c.lines.index _ (omega arith)) in
    answered_step (λ (name : List ℕ). IsMeasuredLine (sizes name) name) (texts items) _ _ _ (append_known (g.W.Write.contents c.args.output.now) c.args.held.now.items) (append_known (g.W.Write.contents c.lines.output) c.lines.held.items) (append_known (g.W.Write.contents c.hold.new.output) c.hold.new.held.items) (string_bytes c.write_line.new.line)
    (c.lines.invariant sizes is) left
    (line_at sizes c.args.measures.now items is c.lines.index _ _ (string_bytes c.write_line.new.line) (omega arith) c.in_ok-write_line.ensures) sent

pub returns-clause-ok : goal.returns-clause-ok
returns-clause-ok g c sizes is =
    let items = c.args.names.now in
    let none : texts (drop c.lines.index items) ≡ [] = ap texts (drop_all c.lines.index items (omega arith)) in
    answered_whole (λ (name : List ℕ). IsMeasuredLine (sizes name) name) (texts items) (texts (drop c.lines.index items)) (append_known (g.W.Write.contents c.args.output.now) c.args.held.now.items) (append_known (g.W.Write.contents c.lines.output) c.lines.held.items) (c.lines.invariant sizes is) none
