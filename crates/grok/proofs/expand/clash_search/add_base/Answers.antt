use Rattle.std.proofs.Common.{Some, [], ◌∷◌, sym, subst}
use Rattle.std.proofs.lemmas.Map.Text.{btree_map_updates_str}
use Rattle.grok.specs.steps.Rows.{flat}
use Rattle.grok.specs.steps.CountedUses.{HasBasesOf}
use Rattle.grok.proofs.Keys.BasesOfRows.{no_bases_needed, base_of_plain, base_of_key, base_is_added, base_is_kept}
use Rattle.grok.proofs.expand.clash_search.add_base.Goals as goal

pub returns-in-Part-clause-added : goal.returns-in-Part-clause-added
returns-in-Part-clause-added c = subst (λ row. HasBasesOf (flat [] (row ∷ [])) c.args.bases.now) (sym c.in-Part.is) (no_bases_needed c.args.bases.now)

pub returns-in-None-clause-added : goal.returns-in-None-clause-added
returns-in-None-clause-added c = subst (λ row. HasBasesOf (flat [] (row ∷ [])) c.args.bases.now) (sym c.in-Use.is) (base_of_plain c.args.bases.now c.in-Use.key.now c.in-None.ensures)

pub returns-in_ok-insert-in-Some-clause-kept : goal.returns-in_ok-insert-in-Some-clause-kept
returns-in_ok-insert-in-Some-clause-kept c =
    base_is_kept c.in-Some.base.now tt c.args.bases.now c.insert.new.self (btree_map_updates_str c.in-Some.base.now c.args.bases.now c.insert.new.self (Some tt) c.in_ok-insert-in-Some.ensures.updates)

pub returns-in_ok-insert-in-Some-clause-added : goal.returns-in_ok-insert-in-Some-clause-added
returns-in_ok-insert-in-Some-clause-added c =
    let new = c.insert.new.self in
    let added = base_is_added c.in-Some.base.now tt c.args.bases.now new (btree_map_updates_str c.in-Some.base.now c.args.bases.now new (Some tt) c.in_ok-insert-in-Some.ensures.updates) in
    let numbered_is = c.in-Some.ensures in
    subst (λ row. HasBasesOf (flat [] (row ∷ [])) new) (sym c.in-Use.is) (base_of_key new c.in-Use.key.now c.in-Some.base.now numbered_is.0 numbered_is.1 added)
