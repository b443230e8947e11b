use Rattle.std.proofs.Common.{ap, ◌∙◌}
use Rattle.std.specs.FinMap as finite
use Rattle.grok.proofs.Texts.DebugOfEntries.{names_in_order}
use Rattle.grok.proofs.defs.Grok.names.Goals as goal

pub returns : goal.returns
returns c = rw c.keys.ensures.rest (names_in_order (λ text. text) c.self.inside.definitions.entries c.keys.ensures.ordered ∙ ap finite.keys c.self.view_is)
