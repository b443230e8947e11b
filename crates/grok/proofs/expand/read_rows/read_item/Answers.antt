use Rattle.std.proofs.Common.{◌∙◌, [], ap, subst, sym, arith}
use Rattle.std.proofs.lemmas.Result.{IfOk-weaker}
use Rattle.grok.specs.Tree.{Inline, Stored, PlaceholderItem, meaning_text}
use Rattle.grok.specs.Items.{label_view, meaning_view, item_view, fault_view}
use Rattle.grok.specs.steps.KnownParts.{IsSoundItem, AreKnown}
use Rattle.grok.specs.steps.RowReading.{StepsAtItem}
use Rattle.grok.specs.declared.expand.read_rows.ReadStep.{ReadStep}
use Rattle.grok.specs.declared.expand.read_rows.ReadStep.TheVariants.{Skip, Enter, Stop}
use Rattle.grok.proofs.Keys.RowsAreRead.{fault_stops, steps_at_placeholder, too_deep, inline_passed, passed_none}
use Rattle.grok.proofs.expand.read_rows.read_item.Goals as goal
use Rattle.grok.proofs.expand.read_rows.read_item.Goals.{In_ok-push_use}

pub returns-in-Fault : goal.returns-in-Fault
returns-in-Fault c sound known =
    fault_stops c.args.settings known.done c.args.levels (item_view c.args.item) (fault_view c.in-Fault.field-0) c.args.rows.now.items (ap item_view c.in-Fault.is)

pub returns-then-levels-eq0 : goal.returns-then-levels-eq0
returns-then-levels-eq0 c sound known =
    let settings = c.args.settings in
    let meaning = meaning_view c.in-Placeholder.meaning in
    let rows = c.push_use.new.rows.items in
    steps_at_placeholder settings known.done c.args.levels (item_view c.args.item) (label_view c.in-Placeholder.label) meaning c.args.rows.now.items rows rows Stop
    (ap item_view c.in-Placeholder.is) (c.in_ok-push_use.ensures known.done) (too_deep settings known.done (meaning_text meaning) c.args.levels rows c.if-levels-eq0.true)

pub returns-in_default : goal.returns-in_default
returns-in_default c sound known =
    let settings = c.args.settings in
    let label = label_view c.in-Placeholder.label in
    let text = c.in_default.field-0.now in
    let rows = c.push_use.new.rows.items in
    let is = ap item_view c.in-Placeholder.is ∙ ap (λ m. PlaceholderItem label (meaning_view m)) c.in_default.is in
    steps_at_placeholder settings known.done c.args.levels (item_view c.args.item) label (Inline text) c.args.rows.now.items rows rows Skip
    is (c.in_ok-push_use.ensures known.done) (inline_passed settings known.done text c.args.levels rows (omega (arith, c.if-levels-eq0.false)) (subst (IsSoundItem settings) is sound))

pub returns-in-Some : goal.returns-in-Some
returns-in-Some c =
    let settings = c.args.settings in
    let label = label_view c.in-Placeholder.label in
    let text = c.in-Stored.stored.now in
    let old = c.args.rows.now.items in
    let mid = c.push_use.new.rows.items in
    let new = c.open_after_known.new.rows.items in
    let is = ap item_view c.in-Placeholder.is ∙ ap (λ m. PlaceholderItem label (meaning_view m)) c.in-Stored.is in
    IfOk-weaker c.open_after_known.result _ (λ (step : ReadStep). IsSoundItem settings (item_view c.args.item) → (known : AreKnown settings c.args.parts.now) → StepsAtItem settings known.done c.args.levels (item_view c.args.item) old new step)
    (λ step h sound known. steps_at_placeholder settings known.done c.args.levels (item_view c.args.item) label (Stored text) old mid new step is (c.in_ok-push_use.ensures known.done)
    (h settings known.done text c.args.levels (c.in-Some.ensures.part settings known text (subst (IsSoundItem settings) is sound)) c.if-part-levels.true c.of_stored-items.ensures))
    c.open_after_known.ensures

pub returns-in_default-of_name : goal.returns-in_default-of_name
returns-in_default-of_name c sound known =
    let settings = c.args.settings in
    let label = label_view c.in-Placeholder.label in
    let text = c.in-Stored.stored.now in
    let rows = c.push_use.new.rows.items in
    let is = ap item_view c.in-Placeholder.is ∙ ap (λ m. PlaceholderItem label (meaning_view m)) c.in-Stored.is in
    steps_at_placeholder settings known.done c.args.levels (item_view c.args.item) label (Stored text) c.args.rows.now.items rows rows (Enter c.of_items.result)
    is (c.in_ok-push_use.ensures known.done) (record { room = omega (arith, c.if-levels-eq0.false); skipped = []; cut = sym (c.of_items.ensures ∙ c.of_stored-items.ensures); passed = passed_none settings known.done rows })
