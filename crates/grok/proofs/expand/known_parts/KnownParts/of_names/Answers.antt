use Rattle.grok.proofs.Keys.PartsAreKnown.{nothing_known}
use Rattle.grok.proofs.expand.known_parts.KnownParts.of_names.Goals as goal

pub names-init : goal.names-init
names-init c = nothing_known c.args.settings (record { rows = c.new.result; by_name = c.new-2.result }) c.new.ensures.items c.new-2.ensures.empty
