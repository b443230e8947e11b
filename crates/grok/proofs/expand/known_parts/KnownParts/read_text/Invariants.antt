use Rattle.std.proofs.Common.{◌≡◌, None, length}
use Rattle.std.specs.FinMap as finite
use Rattle.grok.specs.steps.KnownParts.{resolve, AreKnown}
use Rattle.grok.proofs.Sizes.TextsWithoutPlaceholders.{AreSound}
use Rattle.grok.proofs.Keys.PartsAreKnown.{IsReading}
use Rattle.grok.proofs.expand.known_parts.KnownParts.read_text.Given as goal

abbrev pub invariant-items : goal.invariant-items
invariant-items l = record {
  sound : AreSound (resolve l.settings) (finite.get l.settings.grok.now) l.items;
  whole : l.text.stop ≡ None;
  reading : (parts : AreKnown l.settings l.self) → IsReading l.settings parts.done l.stored l.items l.text.read l.text.known;
}

abbrev pub decreases-items : goal.decreases-items
decreases-items l = length l.items
