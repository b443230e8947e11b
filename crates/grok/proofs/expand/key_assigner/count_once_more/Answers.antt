use Rattle.std.proofs.Common.{rules, ◌≡◌, ◌+◌, ◌∙◌, ap, Some, cond}
use Rattle.std.specs.Str.{bytes_eq}
use Rattle.std.specs.String.{string_bytes}
use Rattle.std.specs.BTreeMap.{get_by_text}
use Rattle.std.proofs.lemmas.Map.Text.{btree_map_updates_text}
use Rattle.grok.proofs.Keys.OneMoreAssignedKey.{counted_more}
use Rattle.grok.proofs.expand.key_assigner.count_once_more.Goals as goal

pub returns : goal.returns
returns c key =
    let named : string_bytes c.in_ok-from_str.field-0 ≡ c.args.base.now = c.in_ok-from_str.ensures.ok in
    counted_more (get_by_text c.args.uses.now) (get_by_text c.insert.new.self) c.args.base.now c.args.count (c.args.count + 1)
    (λ k. btree_map_updates_text (string_bytes c.in_ok-from_str.field-0) c.args.uses.now c.insert.new.self (Some (c.args.count + 1)) c.in_ok-insert.ensures.updates k ∙ ap (λ w. cond (bytes_eq w k) (Some (c.args.count + 1)) (get_by_text c.args.uses.now k)) named)
    (search rules) (search rules) key
