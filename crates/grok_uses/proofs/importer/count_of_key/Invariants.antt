use Rattle.std.proofs.Common.{◌≡◌, ◌≤◌, take}
use Rattle.std.specs.Prelude.{count_by}
use Rattle.grok_uses.specs.Uses.{has_key}
use Rattle.grok_uses.proofs.importer.count_of_key.Given as goal

abbrev pub invariant-loop-line : goal.invariant-loop-line
invariant-loop-line g l = record {
  same : l.matcher ≡ l.pattern;
  counted : l.count ≡ count_by (λ line. has_key g.E.Engine.finds l.pattern l.key line.now) (take l.line-index l.lines);
  bound : l.count ≤ l.line-index;
}
