use Rattle.std.proofs.Common.{sym, ◌∙◌}
use Rattle.grok.specs.Items.{label_view}
use Rattle.grok.proofs.Keys.PartsAreKnown.{adds_use, adds_no_use}
use Rattle.grok.proofs.expand.known_parts.push_use.Goals as goal

pub returns-in_ok-push : goal.returns-in_ok-push
returns-in_ok-push c done =
    adds_use c.args.settings done (label_view c.args.label) c.args.rows.now.items c.push.new.self.items c.base_key.result (sym c.is_capturing.ensures ∙ c.if-is_capturing.true) c.base_key.ensures c.in_ok-push.ensures.items

pub returns-else-is_capturing : goal.returns-else-is_capturing
returns-else-is_capturing c done =
    adds_no_use c.args.settings done (label_view c.args.label) c.args.rows.now.items (sym c.is_capturing.ensures ∙ c.if-is_capturing.false)
