use Rattle.std.proofs.Common.{◌≤◌, [], length}
use Rattle.grok.specs.Tree.{deepest}
use Rattle.grok.specs.steps.KnownParts.{resolve, AreKnown}
use Rattle.grok.proofs.Keys.RowsAreRead.{IsReading, left_of}
use Rattle.grok.proofs.expand.read_rows.read_rows.Given as goal

abbrev pub invariant-items : goal.invariant-items
invariant-items l = record {
  room : length l.around.items ≤ deepest;
  reading : (known : AreKnown l.settings l.parts) → IsReading l.settings known.done (left_of l.settings [] (resolve l.settings l.pattern)) l.around.items l.items l.rows.items;
}

abbrev pub decreases-items : goal.decreases-items
decreases-items l = length (left_of l.settings l.around.items l.items)
