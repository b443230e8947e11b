use Rattle.std.proofs.Common.{◌≡◌, ◌++◌}
use denote.Shadow.{shadow}
use denote.Text.{Utf8}
use Rattle.oniguruma_syntax.specs.Spelling.{spelled_all}
use Rattle.oniguruma_syntax.proofs.reader.Reader.read_run.Given as goal

-- the tokens so far and what is left are the tokens before and the part
abbrev pub invariant-tokens : goal.invariant-tokens
invariant-tokens l = record {
  utf8 : shadow (Utf8 l.rest);
  text : spelled_all l.self.nodes.items ++ l.rest ≡ spelled_all l.fn.self.nodes.items ++ l.run;
}
