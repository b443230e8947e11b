use Rattle.std.proofs.Common.{◌≡◌, ℕ, List, Option, Some, None, Result, Ok, Err, refl, sym, ◌∙◌, ap}
use Rattle.std.specs.Prelude.{IfOk, IfSome}
use Rattle.std.specs.Option.{option_map}
use Rattle.std.specs.FinMap as finite
use Rattle.std.specs.String.{string_bytes}
use Rattle.grok.specs.Tree.{Fault, tree, first_structural}
use Rattle.grok.specs.Keys.{TreeFault, Structural, Clash, first_fault, numbered}
use Rattle.grok.specs.ClashLocations.{IsFirstClash}
use Rattle.grok.specs.declared.locate_clash.Clash as found
use Rattle.grok.proofs.Keys.KeysAreDistinct.{clash_needs_number}
use Rattle.grok.proofs.Keys.ClashIsFirst.{clash_is_first}
use Rattle.grok.proofs.locate_clash.locate_clash.Goals as goal

no_clash : (found : Option Fault) (key : List ℕ) → option_map Structural found ≡ Some (Clash key) → ⊥
no_clash None key e = cc
no_clash (Some fault) key e = cc

is_first : {E : Type 0} (first : Option TreeFault) (key : List ℕ) (r : Result (Option found.Clash) E) → first ≡ Some (Clash key) → IfOk r (λ found. found ≡ None → ⊥)
    → IfOk r (λ found. IfSome found (λ located. string_bytes located.key ≡ key)) → IfOk r (λ found. IsFirstClash first found)
is_first first key (Ok None) is some same = absurd (some refl)
is_first first key (Ok (Some clash)) is some same = is ∙ ap (λ k. Some (Clash k)) (sym same)
is_first first key (Err e) is some same = tt

pub returns-then-not-has_numbered-clause-first : goal.returns-then-not-has_numbered-clause-first
returns-then-not-has_numbered-clause-first c key clash =
    let stored = finite.get c.args.settings.grok.now in
    no_clash (first_structural (tree stored c.args.pattern.now)) key
    (sym (clash_needs_number c.args.settings.with_alias_only stored c.args.pattern.now (sym c.requires.numbered ∙ sym c.has_numbered.ensures ∙ c.if-not-has_numbered.true)) ∙ clash)

pub returns-in-None-clause-first : goal.returns-in-None-clause-first
returns-in-None-clause-first c key clash =
    no_clash (first_structural (tree (finite.get c.args.settings.grok.now) c.args.pattern.now)) key (sym (rw c.in-None.is at c.in_ok-find_first_clash.ensures) ∙ clash)

pub returns-clause-first : goal.returns-clause-first
returns-clause-first c =
    let events = tree (finite.get c.args.settings.grok.now) c.args.pattern.now in
    let clash = c.in-Some.clash in
    is_first (first_fault c.args.settings.with_alias_only events) (numbered clash.base.now clash.number) c.locate_both.result
    (clash_is_first c.args.settings.with_alias_only events clash (rw c.in-Some.is at c.in_ok-find_first_clash.ensures)) c.locate_both.ensures.found c.locate_both.ensures.key
