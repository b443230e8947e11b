use Rattle.std.proofs.Common.{◌≡◌, ℕ, ◌+◌, ◌<◌, [], ◌∷◌, refl, subst}
use Rattle.grok.specs.Tree.{Text, Close, FaultEvent}
use Rattle.grok.specs.Items.{label_view, meaning_view, fault_view}
use Rattle.grok.specs.declared.locate_clash.UseSearch.{UseSearch}
use Rattle.grok.proofs.Keys.UsesArePassed.{passes_open, passes_unused, stops_at_use, goes_on}
use Rattle.grok.proofs.locate_clash.UseSearchSearch.pass_event.Goals as goal

pub returns-in-Open-clause-passed : goal.returns-in-Open-clause-passed
returns-in-Open-clause-passed c passed start before p =
    let self = c.args.self.now in
    let new : UseSearch = record { settings = self.settings; parts = self.parts; counts = self.counts; base = self.base; left = c.pass_uses.new.left } in
    rw c.in-Open.is (passes_open self new (label_view c.in-Open.label) (meaning_view c.in-Open.field-1) refl refl (subst (λ (n : ℕ). n + c.pass_uses.new.left ≡ self.left) c.uses_by-uses.ensures (c.pass_uses.ensures.passed passed)) start before p)

pub returns-in-Open-clause-stopped : goal.returns-in-Open-clause-stopped
returns-in-Open-clause-stopped c stopped start before p =
    rw c.in-Open.is (stops_at_use c.args.self.now (label_view c.in-Open.label) (meaning_view c.in-Open.field-1) (subst (λ (n : ℕ). c.args.self.now.left < n) c.uses_by-uses.ensures (c.pass_uses.ensures.stopped stopped).0) start before p)

pub returns-in-Text-clause-passed : goal.returns-in-Text-clause-passed
returns-in-Text-clause-passed c passed start before p = rw c.in-Text.is (passes_unused c.args.self.now (Text c.in-Text.field-0.now ∷ []) refl start before p)

pub returns-in-Close-clause-passed : goal.returns-in-Close-clause-passed
returns-in-Close-clause-passed c passed start before p = rw c.in-Close.is (passes_unused c.args.self.now (Close ∷ []) refl start before p)

pub returns-in-Fault-clause-passed : goal.returns-in-Fault-clause-passed
returns-in-Fault-clause-passed c passed start before p = rw c.in-Fault.is (passes_unused c.args.self.now (FaultEvent (fault_view c.in-Fault.field-0) ∷ []) refl start before p)

pub returns-in-Open-clause-ready : goal.returns-in-Open-clause-ready
returns-in-Open-clause-ready c passed rest ready = goes_on c.args.self.now c.pass_uses.new.left c.pass_uses.ensures.less ready
