use Rattle.grok_lines.proofs.LineLaws.{no_line_holds_a_line_feed}
use Rattle.grok_lines.proofs.laws.lines.Goals as goal

pub returns-clause-free : goal.returns-clause-free
returns-clause-free c = no_line_holds_a_line_feed
