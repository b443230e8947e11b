use Rattle.std.proofs.Common.{[], ◌∷◌, get_or, take, sym, subst, arith}
use Rattle.std.proofs.lemmas.List.{take_all}
use Rattle.grok.specs.steps.Rows.{flat}
use Rattle.grok.specs.steps.CountedUses.{AreUsesOf}
use Rattle.grok.proofs.Keys.UsesOfKeys.{nothing_counted}
use Rattle.grok.proofs.Keys.RowsAreFlat.{nothing, flat_row_more}
use Rattle.grok.proofs.expand.uses.Uses.of_rows.Goals as goal

pub rows-init : goal.rows-init
rows-init c done counted = subst (AreUsesOf c.args.base.now []) (sym c.none-uses.ensures) (nothing_counted c.args.base.now)

pub rows-preserved : goal.rows-preserved
rows-preserved c done counted =
    let base = c.args.base.now in
    let rows = c.args.rows.now in
    let i = c.rows.row-index in
    subst (λ keys. AreUsesOf base keys c.and-uses.result) (sym (flat_row_more done rows i nothing c.rows-test.true))
    (c.and-uses.ensures base (flat done (take i rows)) (flat done (get_or rows i nothing ∷ [])) (c.rows.invariant done counted) (c.of_row.ensures done counted))

pub returns : goal.returns
returns c done counted =
    let rows = c.args.rows.now in
    subst (λ xs. AreUsesOf c.args.base.now (flat done xs) c.rows.uses) (take_all c.rows.row-index rows (omega arith)) (c.rows.invariant done counted)
