use Rattle.std.proofs.Common.{◌≡◌, ℕ, List, Option, Some, Bor, map, drop, ◌+◌, cond, ◌∙◌, ap}
use Rattle.std.specs.Str.{bytes_eq}
use Rattle.std.specs.String.{string_bytes}
use Rattle.std.specs.BTreeMap.{BTreeMap, get_by}
use Rattle.std.specs.Cmp.Lexicographic.{slice_cmp}
use Rattle.std.specs.Ordering.{nat_cmp}
use Rattle.std.proofs.lemmas.Map.Text.{btree_map_updates_str}
use Rattle.grok.specs.KeyNumbers.{key_text}
use Rattle.grok.specs.KeyTable.{last_or, groups_from, group_of, meant_key}
use Rattle.grok.specs.Captures.{name_texts}
use Rattle.grok.proofs.KeyTables.NamesMeanKeys.{no_name, one_name}
use Rattle.grok.proofs.key_table.groups_by_key.Goals.{in-Some+in_ok-insert, in_default}
use Rattle.grok.proofs.key_table.groups_by_key.Goals as goal

look : List ℕ → BTreeMap (Bor (List ℕ)) ℕ → Option ℕ
look key m = get_by (λ (k : Bor (List ℕ)). slice_cmp nat_cmp key k.now) m

pub names-preserved : goal.names-preserved
unfolding look
names-preserved c key =
    let keys : List (List ℕ) = map key_text c.args.keys.now in
    let names = c.args.names.now in
    let group = c.names.group in
    let whole = group_of keys (name_texts names) key in
    let left : Option ℕ → Option ℕ = λ o. last_or o (groups_from keys key (group + 1) (name_texts (drop (group + 1) names))) in
    elim c.match-name.branch [
      | in-Some+in_ok-insert w ↦
          let text : w.as_str.result.now ≡ string_bytes w.in-Some.name = w.as_str.ensures.value in
          let named : w.meant.result.now ≡ meant_key keys (string_bytes w.in-Some.name) = w.meant.ensures ∙ ap (meant_key keys) text in
          let now : look key w.insert.new.self ≡ cond (bytes_eq (meant_key keys (string_bytes w.in-Some.name)) key) (Some group) (look key c.names.groups) =
          btree_map_updates_str w.meant.result.now c.names.groups w.insert.new.self (Some group) w.in_ok-insert.ensures.updates key ∙ ap (λ t. cond (bytes_eq t key) (Some group) (look key c.names.groups)) named in
          ap (λ m. left (look key m)) w.groups-is
          ∙ one_name keys key names group c.names-test.true (look key c.names.groups) whole (c.names.invariant key) c.index-names-group.result w.in-Some.name (look key w.insert.new.self) c.index-names-group.is w.in-Some.is now
      | in_default w ↦
          ap (λ m. left (look key m)) w.groups-is
          ∙ no_name keys key names group c.names-test.true (look key c.names.groups) whole (c.names.invariant key) c.index-names-group.result c.index-names-group.is w.in_default.is
    ]
