use Rattle.std.proofs.Common.{◌∷◌, [], length, refl}
use Rattle.grok.specs.Tree.{Text, Close}
use Rattle.grok.specs.Items.{meaning_view}
use Rattle.grok.specs.Expanded.{text_after}
use Rattle.grok.specs.steps.Searches.{IsReadyFor}
use Rattle.grok.specs.steps.Writes.{CanWrite}
use Rattle.grok.specs.declared.write.Writer.{Writer}
use Rattle.grok.proofs.Trees.TextIsWritten.{wrote_text, wrote_close, room_for, stays_keyless}
use Rattle.grok.proofs.write.WriterSearch.pass_event.Goals as goal

pub put-requires : goal.put-requires
put-requires c =
    let old = c.args.self.now in
    let r : IsReadyFor CanWrite old (Text c.in-Text.text.now ∷ []) = rw c.in-Text.is at c.requires in
    room_for old (Text c.in-Text.text.now) c.in-Text.text.now (text_after old.settings.with_alias_only (length old.keys.keys.items) r.rest) r refl

pub put-requires-in-Close : goal.put-requires-in-Close
put-requires-in-Close c =
    let old = c.args.self.now in
    let r : IsReadyFor CanWrite old (Close ∷ []) = rw c.in-Close.is at c.requires in
    room_for old Close (41 ∷ []) (text_after old.settings.with_alias_only (length old.keys.keys.items) r.rest) r refl

pub open-requires : goal.open-requires
open-requires c meaning =
    let r = rw c.in-Open.is at c.requires in
    record { rest = r.rest; is = record { assigned = r.is.assigned; room = r.is.room } }

pub returns-in-Text-clause-passed : goal.returns-in-Text-clause-passed
returns-in-Text-clause-passed c passed start before h =
    let old = c.args.self.now in
    let new : Writer = record { settings = old.settings; text = c.put.new.out; keys = old.keys } in
    rw c.in-Text.is (wrote_text start before old h new refl c.in-Text.text.now c.put.ensures.bytes refl)

pub returns-in-Text-clause-ready : goal.returns-in-Text-clause-ready
returns-in-Text-clause-ready c passed =
    let old = c.args.self.now in
    let new : Writer = record { settings = old.settings; text = c.put.new.out; keys = old.keys } in
    rw c.in-Text.is (stays_keyless old new refl c.in-Text.text.now c.put.ensures.bytes c.put.ensures.capacity (Text c.in-Text.text.now) refl (λ rest. refl))

pub returns-in-Close-clause-passed : goal.returns-in-Close-clause-passed
returns-in-Close-clause-passed c passed start before h =
    let old = c.args.self.now in
    let new : Writer = record { settings = old.settings; text = c.put-in-Close.new.out; keys = old.keys } in
    rw c.in-Close.is (wrote_close start before old h new refl c.put-in-Close.ensures.bytes refl)

pub returns-in-Close-clause-ready : goal.returns-in-Close-clause-ready
returns-in-Close-clause-ready c passed =
    let old = c.args.self.now in
    let new : Writer = record { settings = old.settings; text = c.put-in-Close.new.out; keys = old.keys } in
    rw c.in-Close.is (stays_keyless old new refl (41 ∷ []) c.put-in-Close.ensures.bytes c.put-in-Close.ensures.capacity Close refl (λ rest. refl))

pub returns-in_ok-open-in-Open-clause-passed : goal.returns-in_ok-open-in-Open-clause-passed
returns-in_ok-open-in-Open-clause-passed c passed = rw c.in-Open.is (c.in_ok-open-in-Open.ensures.written (meaning_view c.in-Open.field-1)).0

pub returns-in_ok-open-in-Open-clause-ready : goal.returns-in_ok-open-in-Open-clause-ready
returns-in_ok-open-in-Open-clause-ready c passed = rw c.in-Open.is (c.in_ok-open-in-Open.ensures.written (meaning_view c.in-Open.field-1)).1
