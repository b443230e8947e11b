use Rattle.grok_lines.specs.Events.{line_starts}
use Rattle.grok_lines.proofs.EventsAreAnswered.{new_answers}
use Rattle.grok_lines.proofs.events.EventAnswers.new.Goals as goal

pub returns-clause-events : goal.returns-clause-events
returns-clause-events g c =
    new_answers (g.A.LineAnswers.answer c.args.answers) (line_starts (g.S.EventStarts.starts c.args.start)) _ c.get.result c.get.ensures.value c.get.ensures.nonzero
