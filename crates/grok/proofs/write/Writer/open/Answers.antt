use Rattle.std.proofs.Common.{◌≡◌, ◌++◌, ◌∷◌, [], List, length, true, false, OnOk, Ok, Err, suc, refl, sym, ◌∙◌, ap, subst}
use Rattle.std.specs.String.{string_bytes}
use Rattle.grok.specs.Items.{label_view}
use Rattle.grok.specs.Keys.{is_capturing}
use Rattle.grok.specs.GeneratedNames.{unnamed_head, named_head}
use Rattle.grok.specs.Tree.{Label, Meaning, Inline, Open}
use Rattle.grok.specs.Expanded.{text_after}
use Rattle.grok.specs.steps.AssignedKeys.{HasAssigned}
use Rattle.grok.specs.steps.Searches.{Passes}
use Rattle.grok.specs.steps.Writes.{CanWrite, HasWritten}
use Rattle.grok.specs.declared.settings.Settings.{Settings}
use Rattle.grok.specs.declared.write.Writer.{Writer}
use Rattle.grok.proofs.Trees.TextIsWritten.{wrote_unnamed, wrote_named, room_for, stays_keyless, stays_keyed}
use Rattle.grok.proofs.write.Writer.open.Goals as goal

pub put-requires : goal.put-requires
put-requires c =
    let old = c.args.self.now in
    let label = label_view c.args.label in
    let other : is_capturing old.settings.with_alias_only label ≡ false = sym c.is_capturing.ensures ∙ c.if-not-is_capturing.true in
    let r = c.requires (Inline []) in
    room_for old (Open label (Inline [])) unnamed_head (text_after old.settings.with_alias_only (length old.keys.keys.items) r.rest) r (rw other refl)

pub put_head-requires : goal.put_head-requires
put_head-requires c =
    let old = c.args.self.now in
    let label = label_view c.args.label in
    let captures : is_capturing old.settings.with_alias_only label ≡ true = sym c.is_capturing.ensures ∙ c.if-not-is_capturing.false in
    let count : c.len.result ≡ length old.keys.keys.items = c.len.ensures ∙ old.keys.keys.ok.0 in
    let r = c.requires (Inline []) in
    rw count (room_for old (Open label (Inline [])) (named_head (length old.keys.keys.items)) (text_after old.settings.with_alias_only (suc (length old.keys.keys.items)) r.rest) r (rw captures refl))

pub assign-requires : goal.assign-requires
assign-requires c = (c.requires (Inline [])).is.assigned

pub returns-then-not-is_capturing-clause-written : goal.returns-then-not-is_capturing-clause-written
returns-then-not-is_capturing-clause-written c meaning =
    let old = c.args.self.now in
    let new : Writer = record { settings = old.settings; text = c.put.new.out; keys = old.keys } in
    let label = label_view c.args.label in
    let other : is_capturing old.settings.with_alias_only label ≡ false = sym c.is_capturing.ensures ∙ c.if-not-is_capturing.true in (
      λ start before h. wrote_unnamed start before old h new refl label meaning (subst (λ mode. is_capturing mode label ≡ false) (ap (λ (settings : Settings). settings.with_alias_only) h.settings) other) c.put.ensures.bytes refl,
      stays_keyless old new refl unnamed_head c.put.ensures.bytes c.put.ensures.capacity (Open label meaning) refl (λ rest. rw other refl),
    )

pub returns-clause-written : goal.returns-clause-written
returns-clause-written c =
    let old = c.args.self.now in
    let new : Writer = record { settings = old.settings; text = c.put_head.new.out; keys = c.assign.new.self } in
    let label = label_view c.args.label in
    let captures : is_capturing old.settings.with_alias_only label ≡ true = sym c.is_capturing.ensures ∙ c.if-not-is_capturing.false in
    let count : c.len.result ≡ length old.keys.keys.items = c.len.ensures ∙ old.keys.keys.ok.0 in
    let head = named_head (length old.keys.keys.items) in
    let text : string_bytes c.put_head.new.out ≡ string_bytes old.text ++ head = c.put_head.ensures.bytes ∙ ap (λ n. string_bytes old.text ++ named_head n) count in
    elim c.assign.result as (λ r. OnOk r ((before : List Label) → HasAssigned old.keys before → HasAssigned c.assign.new.self (label ∷ before)) → OnOk r ((meaning : Meaning) → Passes CanWrite HasWritten old (Open label meaning ∷ []) new)) [
      | Ok done ↦ λ assigns meaning. (
        λ start before h. wrote_named start before old h new refl label meaning (subst (λ mode. is_capturing mode label ≡ true) (ap (λ (settings : Settings). settings.with_alias_only) h.settings) captures) text assigns,
        stays_keyed old new refl head text c.put_head.ensures.capacity (Open label meaning) label assigns (λ rest. rw captures refl),
      )
      | Err e ↦ λ assigns. tt
    ] c.assign.ensures
