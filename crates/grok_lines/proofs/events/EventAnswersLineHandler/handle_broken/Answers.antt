use Rattle.std.proofs.Common.{◌≡◌, ◌≤◌, ◌∷◌, [], true, false, if◌then◌else◌, ap, ◌∙◌, arith}
use Rattle.grok_lines.specs.EventViews.{event_state}
use Rattle.grok_lines.specs.EventStates.{begins_event, answer_so_far, answers_after, IsNextState}
use Rattle.grok_lines.proofs.HandlersGoOn.{goes_on_by, on_ok_by}
use Rattle.grok_lines.proofs.EventsGoOn.{begins_first, begins_at_start, state_taken}
use Rattle.grok_lines.proofs.events.EventAnswersLineHandler.handle_broken.Goals as goal

pub returns-then-self-eq0-clause-next : goal.returns-then-self-eq0-clause-next
returns-then-self-eq0-clause-next g c =
    let old = event_state g.A.LineAnswers.answer g.S.EventStarts.starts c.args.self.now in
    let new = event_state g.A.LineAnswers.answer g.S.EventStarts.starts c.begin_event.new.self in
    let begins : begins_event old c.args.line.now ≡ true = begins_first old c.args.line.now c.if-self-eq0.true in
    on_ok_by c.begin_event.result _ _
    (λ is. goes_on_by (answers_after answer_so_far) (answers_after (λ state. [])) IsNextState (event_state g.A.LineAnswers.answer g.S.EventStarts.starts)
    c.args.self.now (c.args.line.now ∷ []) c.begin_event.new.self
    (state_taken true old new c.args.line.now begins is))
    c.begin_event.ensures.next

pub returns-clause-next : goal.returns-clause-next
returns-clause-next g c =
    let old = event_state g.A.LineAnswers.answer g.S.EventStarts.starts c.args.self.now in
    let new = event_state g.A.LineAnswers.answer g.S.EventStarts.starts c.add_line.new.self in
    let no_start : old.starts c.args.line.now ≡ false
    = ap (λ utf8. if utf8 then g.S.EventStarts.starts c.args.self.now.start c.args.line.now else false) c.requires in
    let one : 1 ≤ old.line_count = omega arith in
    let begins : begins_event old c.args.line.now ≡ false = begins_at_start old c.args.line.now one ∙ no_start in
    on_ok_by c.add_line.result _ _
    (λ is. goes_on_by (answers_after answer_so_far) (answers_after (λ state. [])) IsNextState (event_state g.A.LineAnswers.answer g.S.EventStarts.starts)
    c.args.self.now (c.args.line.now ∷ []) c.add_line.new.self
    (state_taken false old new c.args.line.now begins is))
    c.add_line.ensures.next
