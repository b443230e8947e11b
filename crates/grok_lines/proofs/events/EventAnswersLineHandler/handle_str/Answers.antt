use Rattle.std.proofs.Common.{◌≡◌, ◌++◌, ◌∷◌, [], true, false, sym, ap, ◌∙◌, append-nil}
use Rattle.grok_lines.specs.EventViews.{event_state}
use Rattle.grok_lines.specs.EventStates.{begins_event, answer_so_far, answer_if_full, after_begin, after_more, ended_if_full, answers_after, IsNextState}
use Rattle.grok_lines.proofs.HandlersGoOn.{goes_on_by, on_ok_by}
use Rattle.grok_lines.proofs.EventsGoOn.{answered_at, at_line, state_taken}
use Rattle.grok_lines.proofs.events.EventAnswersLineHandler.handle_str.Goals as goal

pub returns-then-branch-clause-ok : goal.returns-then-branch-clause-ok
returns-then-branch-clause-ok g c =
    let old = event_state g.A.LineAnswers.answer g.S.EventStarts.starts c.args.self.now in
    let begins : begins_event old c.args.line.now ≡ true = sym c.in_ok-begins.ensures.ok ∙ c.if-branch.true in
    on_ok_by c.begin_event.result _ _
    (λ is. is
    ∙ ap (λ state. c.args.text.now.items ++ (answer_so_far state ++ answer_if_full (after_begin c.as_bytes.result.now state))) c.in_ok-begins.ensures.same
    ∙ ap (λ line. c.args.text.now.items ++ (answer_so_far old ++ answer_if_full (after_begin line old))) c.as_bytes.ensures.value
    ∙ ap (λ answer. c.args.text.now.items ++ answer) (sym (at_line (λ state. []) true old c.args.line.now [] begins ∙ append-nil (answered_at true old c.args.line.now))))
    c.begin_event.ensures.ok

pub returns-then-branch-clause-next : goal.returns-then-branch-clause-next
returns-then-branch-clause-next g c =
    let old = event_state g.A.LineAnswers.answer g.S.EventStarts.starts c.args.self.now in
    let new = event_state g.A.LineAnswers.answer g.S.EventStarts.starts c.begin_event.new.self in
    let begins : begins_event old c.args.line.now ≡ true = sym c.in_ok-begins.ensures.ok ∙ c.if-branch.true in
    on_ok_by c.begin_event.result _ _
    (λ is. goes_on_by (answers_after answer_so_far) (answers_after (λ state. [])) IsNextState (event_state g.A.LineAnswers.answer g.S.EventStarts.starts)
    c.args.self.now (c.args.line.now ∷ []) c.begin_event.new.self
    (state_taken true old new c.args.line.now begins
    (is ∙ ap (λ state. ended_if_full (after_begin c.as_bytes.result.now state)) c.in_ok-begins.ensures.same
    ∙ ap (λ line. ended_if_full (after_begin line old)) c.as_bytes.ensures.value)))
    c.begin_event.ensures.next

pub returns-clause-ok : goal.returns-clause-ok
returns-clause-ok g c =
    let old = event_state g.A.LineAnswers.answer g.S.EventStarts.starts c.args.self.now in
    let begins : begins_event old c.args.line.now ≡ false = sym c.in_ok-begins.ensures.ok ∙ c.if-branch.false in
    on_ok_by c.add_line.result _ _
    (λ is. is
    ∙ ap (λ state. c.args.text.now.items ++ answer_if_full (after_more c.as_bytes-2.result.now state)) c.in_ok-begins.ensures.same
    ∙ ap (λ line. c.args.text.now.items ++ answer_if_full (after_more line old)) c.as_bytes-2.ensures.value
    ∙ ap (λ answer. c.args.text.now.items ++ answer) (sym (at_line (λ state. []) false old c.args.line.now [] begins ∙ append-nil (answered_at false old c.args.line.now))))
    c.add_line.ensures.ok

pub returns-clause-next : goal.returns-clause-next
returns-clause-next g c =
    let old = event_state g.A.LineAnswers.answer g.S.EventStarts.starts c.args.self.now in
    let new = event_state g.A.LineAnswers.answer g.S.EventStarts.starts c.add_line.new.self in
    let begins : begins_event old c.args.line.now ≡ false = sym c.in_ok-begins.ensures.ok ∙ c.if-branch.false in
    on_ok_by c.add_line.result _ _
    (λ is. goes_on_by (answers_after answer_so_far) (answers_after (λ state. [])) IsNextState (event_state g.A.LineAnswers.answer g.S.EventStarts.starts)
    c.args.self.now (c.args.line.now ∷ []) c.add_line.new.self
    (state_taken false old new c.args.line.now begins
    (is ∙ ap (λ state. ended_if_full (after_more c.as_bytes-2.result.now state)) c.in_ok-begins.ensures.same
    ∙ ap (λ line. ended_if_full (after_more line old)) c.as_bytes-2.ensures.value)))
    c.add_line.ensures.next
