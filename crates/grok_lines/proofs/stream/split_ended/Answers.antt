use Rattle.grok_lines.proofs.LineFeedsEndLines.{no_feed, last_feed}
use Rattle.grok_lines.proofs.stream.split_ended.Goals as goal

pub returns-in-None-clause-ended : goal.returns-in-None-clause-ended
returns-in-None-clause-ended c = rw c.split_at.ensures.front (no_feed c.args.bytes.now c.in-None.ensures).0

pub returns-in-None-clause-rest : goal.returns-in-None-clause-rest
returns-in-None-clause-rest c = rw c.split_at.ensures.back (no_feed c.args.bytes.now c.in-None.ensures).1

pub returns-in-Some-clause-ended : goal.returns-in-Some-clause-ended
returns-in-Some-clause-ended c =
    rw c.split_at-in-Some.ensures.front (last_feed c.args.bytes.now c.in-Some.at c.in-Some.ensures.0.high c.in-Some.ensures.1 c.in-Some.ensures.0.after).0

pub returns-in-Some-clause-rest : goal.returns-in-Some-clause-rest
returns-in-Some-clause-rest c =
    rw c.split_at-in-Some.ensures.back (last_feed c.args.bytes.now c.in-Some.at c.in-Some.ensures.0.high c.in-Some.ensures.1 c.in-Some.ensures.0.after).1
