use Rattle.grok.specs.steps.KnownParts.{AreKnown}
use Rattle.grok.proofs.expand.known_parts.KnownParts.of_names.Given as goal

abbrev pub invariant-names : goal.invariant-names
invariant-names l = AreKnown l.settings l.parts
