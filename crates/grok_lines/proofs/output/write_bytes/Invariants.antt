use Rattle.std.specs.Io.KnownBytes.{Appends, append_known}
use Rattle.grok_lines.proofs.output.write_bytes.Given as goal

abbrev pub invariant-writes : goal.invariant-writes
invariant-writes g l = Appends (g.W.Write.contents l.fn.output) (append_known (g.W.Write.contents l.output) l.rest) l.fn.bytes
