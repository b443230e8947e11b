use Rattle.std.proofs.Common.{◌≡◌, ◌++◌}
use denote.Shadow.{shadow}
use denote.Text.{Utf8}
use Rattle.oniguruma_syntax.specs.Spelling.{spelled_all}
use Rattle.oniguruma_syntax.proofs.reader.read.Given as goal

-- the tokens so far and what is left are the text
abbrev pub invariant-placeholders : goal.invariant-placeholders
invariant-placeholders l = record {
  utf8 : shadow (Utf8 l.rest);
  text : spelled_all l.reader.nodes.items ++ l.rest ≡ l.text;
}
