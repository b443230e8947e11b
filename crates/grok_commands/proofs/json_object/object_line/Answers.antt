use Rattle.std.proofs.Common.{◌≡◌, rules}
use Rattle.grok.specs.Answers.{walk}
use Rattle.grok.specs.BorrowedMatches.{borrowed_keys, borrowed_captures}
use Rattle.grok_commands.specs.JsonObjects.{object_text, ReadsBack}
use Rattle.grok_commands.proofs.ObjectsReadBack.{text_of_sent, reads_back}
use Rattle.grok_commands.proofs.json_object.object_line.Goals as goal

pub returns-clause-object : goal.returns-clause-object
returns-clause-object c =
    let sent = c.in-Ok.ensures.events in
    let pairs = walk (borrowed_keys c.args.matches) (borrowed_captures c.args.matches) in
    let written : c.in-Ok.line.items ≡ object_text pairs = text_of_sent pairs sent.0 c.in-Ok.line.items sent.1 sent.2 in
    search rules

pub returns-clause-reads_back : goal.returns-clause-reads_back
returns-clause-reads_back c =
    let pairs = walk (borrowed_keys c.args.matches) (borrowed_captures c.args.matches) in
    let back : ReadsBack pairs (object_text pairs) = reads_back pairs in
    search rules
