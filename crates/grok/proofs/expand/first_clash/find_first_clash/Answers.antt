use Rattle.std.proofs.Common.{List, Result, Ok, Err, Vec, sym, subst}
use Rattle.std.specs.Prelude.{IfOk}
use Rattle.std.specs.Global.{Global}
use Rattle.std.specs.FinMap as finite
use Rattle.grok.specs.Tree.{tree}
use Rattle.grok.specs.steps.Rows.{AreKeysOfParts, NameEarlierParts}
use Rattle.grok.specs.declared.expand.rows.Row.{Row}
use Rattle.grok.proofs.Keys.ClashIsFirst.{finds_first_clash}
use Rattle.grok.proofs.expand.first_clash.find_first_clash.Goals as goal

if_ok : {A E : Type 0} (P Q : A → Type 0) (r : Result A E) → ((x : A) → P x → Q x) → IfOk r P → IfOk r Q
if_ok P Q (Ok x) more is = more x is
if_ok P Q (Err e) more is = is

pub find_clash-requires-clause-falls : goal.find_clash-requires-clause-falls
find_clash-requires-clause-falls c = subst NameEarlierParts (sym c.deref.ensures.value) c.requires.are_keys.falls

pub returns : goal.returns
returns c =
    let known = c.requires in
    if_ok _ _ c.find_clash.result
    (λ found is. finds_first_clash c.args.settings.with_alias_only (tree (finite.get c.args.settings.grok.now) c.args.pattern.now) _ found (c.in_ok-rows.ensures.keys known)
    (is known.done (subst (λ (parts : List (Vec Row Global)). AreKeysOfParts parts known.done) (sym c.deref.ensures.value) known.are_keys)))
    c.find_clash.ensures
