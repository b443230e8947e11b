use Rattle.groklog_answers.proofs.EmptyObjects.{empty_line}
use Rattle.groklog_answers.proofs.layout.Layout.writes_empty_objects.Goals as goal

pub returns-in-Json : goal.returns-in-Json
returns-in-Json c = λ is why n line. empty_line c.args.self.now.format _ c.in-Json.is (c.has_no_members.ensures is why n line)
