use Rattle.std.proofs.Common.{◌≡◌, ℕ, List, length, take}
use Rattle.grok.specs.steps.Rows.{AreKeysOfParts}
use Rattle.grok.specs.steps.CountedUses.{AreCountsOf}
use Rattle.grok.proofs.expand.uses.count_parts.Given as goal

-- the parts so far are counted
abbrev pub invariant-parts : goal.invariant-parts
invariant-parts l = record {
  long : length l.counts.items ≡ l.rows-index;
  counted : (done : List (List (List ℕ))) → AreKeysOfParts l.parts done → AreCountsOf l.base (take l.rows-index done) l.counts.items;
}
