use Rattle.std.proofs.Common.{◌∷◌, [], ◌++◌, ap, subst, sym, ◌∙◌}
use Rattle.grok.specs.Tree.{Stored, PlaceholderItem}
use Rattle.grok.specs.Items.{label_view, meaning_view, item_view}
use Rattle.grok.specs.steps.Rows.{part_keys}
use Rattle.grok.specs.steps.KnownParts.{own_keys, IsSoundItem, IsKnownOf}
use Rattle.grok.proofs.Keys.PartsAreKnown.{adds_more, adds_part, text_known, inline_known, placeholder_known, none_left, whole_text_known}
use Rattle.grok.proofs.expand.known_parts.KnownParts.read_item.Goals as goal

pub returns-in-Text : goal.returns-in-Text
returns-in-Text c sound parts items h =
    subst (λ i. IsKnownOf c.args.settings parts.done (items ++ i ∷ []) c.args.known.now) (sym (ap item_view c.in-Text.is)) (text_known c.args.settings parts.done items c.in-Text.field-0.now c.args.known.now h)

pub returns-in_ok-add_open-in-Inline : goal.returns-in_ok-add_open-in-Inline
returns-in_ok-add_open-in-Inline c sound parts items h =
    let label = label_view c.in-Placeholder.label in
    let text = c.in-Inline.field-0.now in
    let new = c.add_open.new.self in
    let is = ap item_view c.in-Placeholder.is ∙ ap (λ m. PlaceholderItem label (meaning_view m)) c.in-Inline.is in
    subst (λ i. IsKnownOf c.args.settings parts.done (items ++ i ∷ []) new) (sym is)
    (inline_known c.args.settings parts.done items label text c.args.known.now new h (subst (IsSoundItem c.args.settings) is sound)
    c.in_ok-add_open-in-Inline.ensures.height.0 c.in_ok-add_open-in-Inline.ensures.height.1 (c.in_ok-add_open-in-Inline.ensures.rows parts.done))

pub returns-in_ok-push-in-Some : goal.returns-in_ok-push-in-Some
returns-in_ok-push-in-Some c sound parts items h =
    let settings = c.args.settings in
    let label = label_view c.in-Placeholder.label in
    let text = c.in-Stored.field-0.now in
    let part = c.in-Some.part.now in
    let mid = c.add_open-in-Some.new.self in
    let new = record mid { rows = c.push.new.self } in
    let is = ap item_view c.in-Placeholder.is ∙ ap (λ m. PlaceholderItem label (meaning_view m)) c.in-Stored.is in
    let f = c.in-Some.ensures.part settings parts text (subst (IsSoundItem settings) is sound) in
    let whole = whole_text_known settings parts.done text part f (none_left part.stop c.is_none.result c.is_none.ensures c.if-is_none.true) in
    subst (λ i. IsKnownOf settings parts.done (items ++ i ∷ []) new) (sym is)
    (placeholder_known settings parts.done items label (Stored text) c.args.known.now new part.height (part_keys parts.done part.index) h whole
    c.in_ok-add_open-in-Some.ensures.height.0 c.in_ok-add_open-in-Some.ensures.height.1
    (adds_more parts.done c.args.known.now.rows.items mid.rows.items new.rows.items (own_keys settings label) (part_keys parts.done part.index)
    (c.in_ok-add_open-in-Some.ensures.rows parts.done) (adds_part parts.done mid.rows.items new.rows.items part.index c.in_ok-push-in-Some.ensures.items f.within)))
