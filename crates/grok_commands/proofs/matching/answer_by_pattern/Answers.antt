use Rattle.std.proofs.Common.{◌≡◌, inr, ℕ, List, flat_map, subst}
use Rattle.std.proofs.lemmas.Result.{on_ok_weaker}
use Rattle.std.specs.Io.KnownBytes.{Appends, append_known}
use Rattle.grok_lines.specs.Lines.{lines_of, ended_lines_of}
use Rattle.grok_lines.specs.Traffic.{Traffic, traffic}
use Rattle.grok_lines.specs.Streams.{answers_of, HasAnsweredInput, HasAnsweredInputThen, HasAnsweredEnded, HasAnsweredSome, HasBegun}
use Rattle.grok_lines.proofs.AnswersAreNumberedOn.{answers_by_lines_alone}
use Rattle.grok_commands.specs.LineTexts.{line_answer}
use Rattle.grok_commands.proofs.matching.answer_by_pattern.Goals as goal

-- answers that don't depend on how many lines came before
input_alone : (f : List ℕ → List ℕ) (later : ℕ → List ℕ → List ℕ) (t : Traffic) → HasAnsweredInputThen (λ n. f) later t → HasAnsweredInput (flat_map f) t
input_alone f later t (bytes, read, end, written, next) =
    (bytes, read, end, subst (λ (v : List ℕ). Appends t.written_old t.written_new v) (answers_by_lines_alone f (lines_of bytes)) written)

ended_alone : (f : List ℕ → List ℕ) (t : Traffic) → HasAnsweredEnded (answers_of (λ n. f)) t → HasAnsweredEnded (flat_map f) t
ended_alone f t (bytes, read, written) =
    (bytes, read, subst (λ (v : List ℕ). Appends t.written_old t.written_new v) (answers_by_lines_alone f (ended_lines_of bytes)) written)

some_alone : (f : List ℕ → List ℕ) (t : Traffic) → HasAnsweredSome (answers_of (λ n. f)) t → HasAnsweredSome (flat_map f) t
some_alone f t (bytes, read, (sent, unsent, are, written)) =
    (bytes, read, (sent, unsent, are, subst (λ (v : List ℕ). Appends t.written_old t.written_new v) (answers_by_lines_alone f sent) written))

begun_alone : (f : List ℕ → List ℕ) (t : Traffic) → HasBegun (HasAnsweredSome (answers_of (λ n. f))) t → HasBegun (HasAnsweredSome (flat_map f)) t
begun_alone f t (unsent, some) =
    (unsent, some_alone f (traffic t.unread_old t.unread_new t.written_old (append_known t.written_new unsent)) some)

pub returns-clause-ok : goal.returns-clause-ok
returns-clause-ok g c =
    let t = traffic (g.R.Read.remaining c.args.input.now) (g.R.Read.remaining c.answer_each.new.input) (g.W.Write.contents c.args.output.now) (g.W.Write.contents c.answer_each.new.output) in
    on_ok_weaker c.answer_each.result
    (λ said. subst (λ pattern. HasAnsweredInput (flat_map (line_answer c.args.format (g.E.Engine.finds pattern.engine) pattern.keys)) t) c.in_ok-matcher.ensures
    (input_alone (line_answer c.args.format (g.E.Engine.finds c.in_ok-matcher.field-0.engine) c.in_ok-matcher.field-0.keys) _ t said))
    c.answer_each.ensures.ok

pub returns-clause-memory : goal.returns-clause-memory
returns-clause-memory g c h =
    let t = traffic (g.R.Read.remaining c.args.input.now) (g.R.Read.remaining c.answer_each.new.input) (g.W.Write.contents c.args.output.now) (g.W.Write.contents c.answer_each.new.output) in
    inr (subst (λ pattern. HasAnsweredSome (flat_map (line_answer c.args.format (g.E.Engine.finds pattern.engine) pattern.keys)) t) c.in_ok-matcher.ensures
    (some_alone (line_answer c.args.format (g.E.Engine.finds c.in_ok-matcher.field-0.engine) c.in_ok-matcher.field-0.keys) t (c.answer_each.ensures.memory h)))

pub returns-clause-read : goal.returns-clause-read
returns-clause-read g c h =
    let t = traffic (g.R.Read.remaining c.args.input.now) (g.R.Read.remaining c.answer_each.new.input) (g.W.Write.contents c.args.output.now) (g.W.Write.contents c.answer_each.new.output) in
    subst (λ pattern. HasAnsweredEnded (flat_map (line_answer c.args.format (g.E.Engine.finds pattern.engine) pattern.keys)) t) c.in_ok-matcher.ensures
    (ended_alone (line_answer c.args.format (g.E.Engine.finds c.in_ok-matcher.field-0.engine) c.in_ok-matcher.field-0.keys) t (c.answer_each.ensures.read h))

pub returns-clause-write : goal.returns-clause-write
returns-clause-write g c h =
    let t = traffic (g.R.Read.remaining c.args.input.now) (g.R.Read.remaining c.answer_each.new.input) (g.W.Write.contents c.args.output.now) (g.W.Write.contents c.answer_each.new.output) in
    subst (λ pattern. HasBegun (HasAnsweredSome (flat_map (line_answer c.args.format (g.E.Engine.finds pattern.engine) pattern.keys))) t) c.in_ok-matcher.ensures
    (begun_alone (line_answer c.args.format (g.E.Engine.finds c.in_ok-matcher.field-0.engine) c.in_ok-matcher.field-0.keys) t (c.answer_each.ensures.write h))
