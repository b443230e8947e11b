use Rattle.std.proofs.Common.{◌≡◌, Some, refl, sym, ◌∙◌}
use Rattle.std.specs.FinMap as finite
use Rattle.std.proofs.lemmas.Map.Text.{btree_map_updates_str}
use Rattle.grok.specs.declared.expand.known_parts.KnownParts.{KnownParts}
use Rattle.grok.specs.declared.expand.known_parts.KnownPart.{KnownPart}
use Rattle.grok.specs.steps.KnownParts.{IsReadOf, AreKnown}
use Rattle.grok.proofs.Keys.PartsAreKnown.{name_known}
use Rattle.grok.proofs.expand.known_parts.KnownParts.add_name.Goals as goal

pub returns-in_ok-insert : goal.returns-in_ok-insert
returns-in_ok-insert c =
    let settings = c.args.settings in
    let found = c.in-Some-2.text in
    let new : KnownParts = record { rows = c.push.new.self; by_name = c.insert.new.self } in
    let part : KnownPart = record { index = c.len.result; height = found.known.height; stop = found.stop; read = found.read } in
    let defined : finite.get settings.grok.now c.args.name.now ≡ Some c.in-Some.stored.now = sym c.in-Some.ensures in
    let known : AreKnown settings c.args.self.now = c.requires in
    let r : IsReadOf settings known.done c.in-Some.stored.now found = (rw c.in-Some-2.is at c.in_ok-text.ensures) known in
    name_known settings c.args.self.now new c.args.name.now c.in-Some.stored.now found part known defined r
    (c.len.ensures ∙ c.args.self.now.rows.ok.0) refl refl refl c.in_ok-push.ensures.items
    (btree_map_updates_str c.args.name.now c.args.self.now.by_name c.insert.new.self (Some part) c.in_ok-insert.ensures.updates)
