use Rattle.std.proofs.Common.{◌≡◌, [], length, slice_get, Some, Vec, Global, refl, sym, ◌∙◌, ap, subst, inl, inr, arith}
use Rattle.std.proofs.lemmas.Bool.{cases_lt}
use Rattle.std.proofs.lemmas.Option.{slice_get_read, slice_get_within, same_Some}
use Rattle.grok.specs.declared.expand.rows.Row.{Row}
use Rattle.grok.specs.steps.Rows.{flat}
use Rattle.grok.specs.steps.CountedUses.{HasBasesOf}
use Rattle.grok.proofs.Keys.BasesOfRows.{bases_kept, bases_of_rows}
use Rattle.grok.proofs.expand.clash_search.bases_of.Goals as goal

pub parts-preserved : goal.parts-preserved
parts-preserved c =
    let parts = c.args.parts.now in
    let i = c.parts.rows-index in
    let item = c.rows-item.result in
    let old = c.parts.bases in
    let new = c.add_bases-in-parts.new.bases in
    let kept = c.in_ok-add_bases-2.ensures.kept in
    let item_is : slice_get parts i ≡ Some item = slice_get_read parts (length parts) i item refl c.parts-test.true c.rows-item.is in
    record {
      top = bases_kept (flat [] c.args.top.now) old new kept c.parts.invariant.top;
      parts = λ index rows low is. elim (cases_lt index i) [
        | inl before ↦ bases_kept (flat [] rows.items) old new kept (c.parts.invariant.parts index rows before is)
        | inr here ↦
            let at : i ≡ index = omega (arith, low, here) in
            let same : item ≡ rows = same_Some item rows (sym item_is ∙ ap (slice_get parts) at ∙ is) in
            subst (λ (v : Vec Row Global). HasBasesOf (flat [] v.items) new) same (subst (λ rs. HasBasesOf (flat [] rs) new) c.deref.ensures.value c.in_ok-add_bases-2.ensures.added)
      ];
    }

pub returns : goal.returns
returns c done are =
    let parts = c.args.parts.now in
    bases_of_rows c.parts.bases parts done are
    (λ index rows is. c.parts.invariant.parts index rows (let within = slice_get_within parts index rows is in omega (arith, within, c.parts-test.false)) is)
    c.args.top.now c.requires c.parts.invariant.top
