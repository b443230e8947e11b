use Rattle.std.proofs.Common.{◌≡◌, ◌+◌, true, false, cond, [], ◌∷◌, length, refl, ◌∙◌, ap, arith}
use Rattle.std.specs.Prelude.{codes}
use Rattle.grok.specs.Tree.{Text, Open, Close, FaultEvent}
use Rattle.grok.specs.Keys.{is_capturing}
use Rattle.grok.specs.Items.{label_view, meaning_view, fault_view}
use Rattle.grok.specs.steps.Sizes.{size_of_bytes, head_size}
use Rattle.grok.specs.steps.MeasureCache.{shown}
use Rattle.grok.proofs.Trees.ByteIsLocated.{size_known}
use Rattle.grok.proofs.locate_byte.ByteSearch.size_of_event.Goals as goal

pub returns-in-Text : goal.returns-in-Text
returns-in-Text c =
    let alias_only = c.args.self.now.measurer.now.settings.with_alias_only in
    let text = c.in-Text.text.now in
    rw c.in-Text.is (size_known alias_only c.size_of_text.result (Text text ∷ []) (size_of_bytes text) c.size_of_text.ensures.shown (omega arith) refl)

pub returns-in-Open : goal.returns-in-Open
returns-in-Open c =
    let alias_only = c.args.self.now.measurer.now.settings.with_alias_only in
    let label = label_view c.in-Open.label in
    let opens : c.size_of_head.result ≡ shown (head_size (is_capturing alias_only label)) = c.size_of_head.ensures ∙ ap (λ b. shown (head_size b)) c.is_capturing.ensures in
    rw c.in-Open.is (size_known alias_only c.size_of_head.result (Open label (meaning_view c.in-Open.field-1) ∷ []) (head_size (is_capturing alias_only label)) opens
    (elim (is_capturing alias_only label) as (λ b. cond b 7 3 + 0 ≡ (head_size b).bytes) [ true ↦ refl | false ↦ refl ])
    (elim (is_capturing alias_only label) as (λ b. length (cond b (label ∷ []) []) ≡ (head_size b).groups) [ true ↦ refl | false ↦ refl ]))

pub returns-in-Close : goal.returns-in-Close
returns-in-Close c =
    rw c.in-Close.is (size_known c.args.self.now.measurer.now.settings.with_alias_only c.size_of_text-in-Close.result (Close ∷ []) (size_of_bytes (codes ")")) c.size_of_text-in-Close.ensures.shown refl refl)

pub returns-in-Fault : goal.returns-in-Fault
returns-in-Fault c =
    rw c.in-Fault.is (size_known c.args.self.now.measurer.now.settings.with_alias_only c.size_of_text-in-Fault.result (FaultEvent (fault_view c.in-Fault.field-0) ∷ []) (size_of_bytes []) c.size_of_text-in-Fault.ensures.shown refl refl)
