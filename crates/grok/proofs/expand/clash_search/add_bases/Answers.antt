use Rattle.std.proofs.Common.{[], ◌∷◌, get_or, take, sym, subst, arith}
use Rattle.std.proofs.lemmas.List.{take_all}
use Rattle.grok.specs.steps.Rows.{flat}
use Rattle.grok.specs.steps.CountedUses.{HasBasesOf}
use Rattle.grok.proofs.Keys.RowsAreFlat.{nothing, flat_row_more}
use Rattle.grok.proofs.Keys.BasesOfRows.{bases-append, bases_kept}
use Rattle.grok.proofs.expand.clash_search.add_bases.Goals as goal

pub rows-preserved : goal.rows-preserved
rows-preserved c =
    let rows = c.args.rows.now in
    let i = c.rows.row-index in
    let old = c.rows.bases in
    let new = c.add_base.new.bases in
    record {
      kept = λ base has. c.in_ok-add_base.ensures.kept base (c.rows.invariant.kept base has);
      added = subst (λ keys. HasBasesOf keys new) (sym (flat_row_more [] rows i nothing c.rows-test.true))
          (bases-append new (flat [] (take i rows)) (flat [] (get_or rows i nothing ∷ [])) (bases_kept (flat [] (take i rows)) old new c.in_ok-add_base.ensures.kept c.rows.invariant.added) c.in_ok-add_base.ensures.added);
    }

pub returns-clause-added : goal.returns-clause-added
returns-clause-added c = subst (λ rows. HasBasesOf (flat [] rows) c.rows.bases) (take_all c.rows.row-index c.args.rows.now (omega arith)) c.rows.invariant.added
