use Rattle.std.proofs.Common.{◌≡◌, ℕ, List, Some, Bor, false, refl, sym, ◌∙◌, ap}
use Rattle.std.specs.Option.{option_map}
use Rattle.std.specs.Str.{bytes_eq}
use Rattle.std.proofs.lemmas.Map.Text.{btree_map_updates_str}
use Rattle.grok.specs.Tree.{is_absent}
use Rattle.grok.proofs.Texts.OneMoreInlineDefinition.{absent_is, written_more}
use Rattle.grok.proofs.defs.items.write_definition.Goals as goal

pub returns-in_ok-insert : goal.returns-in_ok-insert
returns-in_ok-insert c other =
    let some : is_absent c.args.definition.now ≡ false = absent_is c.args.definition.now ∙ sym c.is_empty.ensures ∙ c.if-not-is_empty.true in
    ap (option_map (λ (t : Bor (List ℕ)). t.now)) (btree_map_updates_str c.args.name.now c.args.written.now c.insert.new.self (Some c.args.definition) c.in_ok-insert.ensures.updates other)
    ∙ written_more c.args.definition.now some (bytes_eq c.args.name.now other) c.args.definition _ refl
