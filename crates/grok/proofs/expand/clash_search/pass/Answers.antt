use Rattle.std.proofs.Common.{[], ◌∷◌, ◌++◌, get_or, take, sym, ◌∙◌, subst, append-nil, arith}
use Rattle.std.proofs.lemmas.Bool.{true≢false}
use Rattle.std.proofs.lemmas.List.{take_all}
use Rattle.grok.specs.steps.Rows.{flat}
use Rattle.grok.specs.steps.CountedUses.{AreUsesOf}
use Rattle.grok.proofs.Keys.RowsAreFlat.{nothing, flat_after}
use Rattle.grok.proofs.expand.clash_search.pass.Goals as goal

pub rows-init : goal.rows-init
rows-init c = record {
  free = λ free. free;
  passed = λ done counted before p. subst (λ keys. AreUsesOf c.args.base.now keys c.args.so_far.now) (sym (append-nil before)) p;
}

pub rows-preserved : goal.rows-preserved
rows-preserved c = record {
  free = λ free. c.are_free.ensures.0 c.if-not-are_free.false;
  passed = λ done counted before p.
      let rows = c.args.rows.now in
      let i = c.rows.index in
      subst (λ keys. AreUsesOf c.args.base.now keys c.and-after.result) (sym (flat_after done before rows i c.rows-test.true))
      (c.and-after.ensures c.args.base.now (before ++ flat done (take i rows)) (flat done (get_or rows i nothing ∷ [])) (c.rows.invariant.passed done counted before p) (c.of_row.ensures done counted));
}

pub returns-then-not-are_free-clause-passes : goal.returns-then-not-are_free-clause-passes
returns-then-not-are_free-clause-passes c done counted before p =
    let rows = c.args.rows.now in
    let i = c.rows.index in
    let passed = c.rows.invariant.passed done counted before p in
    record {
      passed = passed;
      over = record {
        uses = c.and-after.result;
        are_uses = subst (λ keys. AreUsesOf c.args.base.now keys c.and-after.result) (sym (flat_after done before rows i c.rows-test.true))
            (c.and-after.ensures c.args.base.now (before ++ flat done (take i rows)) (flat done (get_or rows i nothing ∷ [])) passed (c.of_row.ensures done counted));
        over = λ free. true≢false (sym (c.are_free.ensures.1 free) ∙ c.if-not-are_free.true);
      };
    }

pub returns-clause-passes : goal.returns-clause-passes
returns-clause-passes c done counted before p =
    subst (λ rows. AreUsesOf c.args.base.now (before ++ flat done rows) c.rows.so_far) (take_all c.rows.index c.args.rows.now (omega arith)) (c.rows.invariant.passed done counted before p)
