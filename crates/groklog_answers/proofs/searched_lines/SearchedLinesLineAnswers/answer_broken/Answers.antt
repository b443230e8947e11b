use Rattle.groklog_answers.proofs.EnoughLines.{kept_unless_more}
use Rattle.groklog_answers.proofs.searched_lines.SearchedLinesLineAnswers.answer_broken.Goals as goal

pub returns-clause-memory : goal.returns-clause-memory
returns-clause-memory g c =
    kept_unless_more _ c.take_broken-taken.result c.end_line.result c.take_broken-taken.ensures.enough c.take_broken-taken.ensures.memory c.end_line.ensures.stopped
