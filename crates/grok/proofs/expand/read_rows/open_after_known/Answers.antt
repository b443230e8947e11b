use Rattle.std.proofs.Common.{◌∷◌, drop, ◌∙◌, ap}
use Rattle.grok.specs.Items.{item_view}
use Rattle.grok.proofs.Keys.RowsAreRead.{passes_whole, enters_after_known}
use Rattle.grok.proofs.expand.read_rows.open_after_known.Goals as goal

pub returns-in-None : goal.returns-in-None
returns-in-None c settings done text levels f high is =
    passes_whole settings done text c.args.part.now f levels high c.args.rows.now.items c.push.new.self.items c.in_ok-push.ensures.items c.in-None.is

pub returns : goal.returns
returns c settings done text levels f high is =
    let item = c.in-Some.item in
    enters_after_known settings done text c.args.part.now f levels high c.args.rows.now.items c.push.new.self.items c.in_ok-push.ensures.items
    item c.known_first-rest.result c.in-Some.is (c.known_first-rest.ensures ∙ ap (λ items. item_view item ∷ drop c.args.part.now.read items) is)
