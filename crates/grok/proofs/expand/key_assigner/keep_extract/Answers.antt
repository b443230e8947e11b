use Rattle.std.proofs.Common.{◌≡◌, sym, ◌∙◌, ap, Some, false}
use Rattle.std.specs.Option.{option_map}
use Rattle.std.specs.Str.{bytes_eq}
use Rattle.std.specs.String.{string_bytes}
use Rattle.std.specs.BTreeMap.{get_by_text}
use Rattle.grok.specs.Tree.{is_absent}
use Rattle.std.proofs.lemmas.Map.Text.{btree_map_updates_text}
use Rattle.grok.proofs.Keys.OneMoreAssignedKey.{kept_value, mapped_cond, absent_is}
use Rattle.grok.proofs.expand.key_assigner.keep_extract.Goals as goal

pub returns-in_ok-insert : goal.returns-in_ok-insert
returns-in_ok-insert c other =
    let k = c.in_ok-from_str.field-0 in
    let v = c.in_ok-from_str-2.field-0 in
    let named : string_bytes k ≡ c.args.key.now = c.in_ok-from_str.ensures.ok in
    let text : string_bytes v ≡ c.args.extract.now = c.in_ok-from_str-2.ensures.ok in
    let some : is_absent c.args.extract.now ≡ false = absent_is c.args.extract.now ∙ sym c.is_empty.ensures ∙ c.if-not-is_empty.true in
    kept_value (bytes_eq (string_bytes k) other) (bytes_eq c.args.key.now other) c.args.extract.now (string_bytes v) (option_map string_bytes (get_by_text c.args.extracts.now other)) (option_map string_bytes (get_by_text c.insert.new.self other))
    (ap (option_map string_bytes) (btree_map_updates_text (string_bytes k) c.args.extracts.now c.insert.new.self (Some v) c.in_ok-insert.ensures.updates other) ∙ mapped_cond string_bytes (bytes_eq (string_bytes k) other) v (get_by_text c.args.extracts.now other))
    (ap (λ w. bytes_eq w other) named) text some
