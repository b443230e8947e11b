use Rattle.grok_lines.proofs.LineEndsAtLineFeed.{line_cut}
use Rattle.grok_lines.proofs.stream.first_line.Goals as goal

pub returns-in-Some : goal.returns-in-Some
returns-in-Some c = line_cut c.args.bytes.now c.in-Some.at c.in-Some.ensures.0.high c.in-Some.ensures.0.before c.in-Some.ensures.1
