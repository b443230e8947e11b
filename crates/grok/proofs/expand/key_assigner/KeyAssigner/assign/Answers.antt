use Rattle.std.proofs.Common.{◌≡◌, ℕ, List, [], ◌∷◌, ◌++◌, map, ◌∙◌, ap, cond, not, ◌&&◌, Some}
use Rattle.std.specs.Option.{option_map}
use Rattle.std.specs.Str.{bytes_eq}
use Rattle.std.specs.String.{string_bytes}
use Rattle.std.specs.BTreeMap.{get_by_text}
use Rattle.std.proofs.lemmas.List.{map-append}
use Rattle.grok.specs.Tree.{is_absent}
use Rattle.grok.specs.Keys.{base_key, how_often}
use Rattle.grok.specs.KeyNumbers.{key_text, key_number}
use Rattle.grok.specs.declared.expand.placeholder_key.PlaceholderKey.{PlaceholderKey}
use Rattle.grok.specs.Items.{label_view}
use Rattle.grok.proofs.Keys.KeysAreAssigned.{key_named, assigned_now, can_count}
use Rattle.grok.proofs.expand.key_assigner.KeyAssigner.assign.Goals as goal

pub count_once_more-requires-clause-fits : goal.count_once_more-requires-clause-fits
count_once_more-requires-clause-fits c = can_count c.args.self.now c.base_key-base.result.now c.uses_of-count.result c.requires c.uses_of-count.ensures

pub returns : goal.returns
returns c before shows =
    let label = label_view c.args.label in
    let assigner = c.args.self.now in
    let name : List ℕ = string_bytes c.in_ok-key.key in
    let named = key_named before label assigner shows c.base_key-base.result.now name c.uses_of-count.result c.base_key-base.ensures c.uses_of-count.ensures c.in_ok-key.ensures in
    let one : PlaceholderKey = record { key = c.in_ok-key.key; number = c.uses_of-count.result } in
    let pushed : map key_text c.push.new.self.items ≡ map key_text assigner.keys.items ++ name ∷ [] = ap (map key_text) c.in_ok-push.ensures.items ∙ map-append key_text assigner.keys.items (one ∷ []) in
    let often : c.uses_of-count.result ≡ how_often before (base_key label) = c.uses_of-count.ensures ∙ shows.uses c.base_key-base.result.now ∙ ap (how_often before) c.base_key-base.ensures in
    let counted : map key_number c.push.new.self.items ≡ map key_number assigner.keys.items ++ how_often before (base_key label) ∷ [] = ap (map key_number) c.in_ok-push.ensures.items ∙ map-append key_number assigner.keys.items (one ∷ []) ∙ ap (λ n. map key_number assigner.keys.items ++ n ∷ []) often in
    assigned_now before label assigner shows (record { alloc = assigner.alloc; uses = c.count_once_more.new.uses; keys = c.push.new.self; extracts = c.keep_extract.new.extracts }) c.base_key-base.result.now name
    c.base_key-base.ensures named
    c.in_ok-count_once_more.ensures pushed counted
    (λ key. c.in_ok-keep_extract.ensures key ∙ ap (λ k. cond (bytes_eq k key && not (is_absent c.args.label.extract.now)) (Some c.args.label.extract.now) (option_map string_bytes (get_by_text assigner.extracts key))) c.as_str.ensures.value)
