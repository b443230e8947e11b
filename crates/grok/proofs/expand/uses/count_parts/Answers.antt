use Rattle.std.proofs.Common.{◌≡◌, ◌+◌, ◌<◌, length, slice_get, Some, take, refl, sym, ◌∙◌, ap, subst, arith}
use Rattle.std.proofs.lemmas.List.{take_all, length_push}
use Rattle.std.proofs.lemmas.Option.{slice_get_read}
use Rattle.grok.specs.steps.Rows.{part_keys, flat}
use Rattle.grok.specs.steps.CountedUses.{AreUsesOf, AreCountsOf}
use Rattle.grok.proofs.Keys.RowsAreFlat.{flat_below, counts_more}
use Rattle.grok.proofs.expand.uses.count_parts.Goals as goal

pub parts-preserved : goal.parts-preserved
parts-preserved c =
    let base = c.args.base.now in
    let parts = c.args.parts.now in
    let i = c.parts.rows-index in
    let rows = c.rows-item.result in
    let counts = c.parts.counts.items in
    let uses = c.of_rows-uses.result in
    let so_far = c.parts.invariant in
    let is : slice_get parts i ≡ Some rows = slice_get_read parts (length parts) i rows refl c.parts-test.true c.rows-item.is in
    record {
      long = ap length c.in_ok-push.ensures.items ∙ length_push counts uses ∙ ap (λ n. n + 1) so_far.long;
      counted = λ done are.
          let low : i < length done = omega (arith, are.same, c.parts-test.true) in
          let before = subst (λ cs. AreCountsOf base (take i done) cs) (sym c.deref-in-parts.ensures.value) (so_far.counted done are) in
          let own : AreUsesOf base (flat (take i done) rows.items) uses = subst (λ rs. AreUsesOf base (flat (take i done) rs) uses) c.deref.ensures.value (c.of_rows-uses.ensures (take i done) before) in
          let all : flat (take i done) rows.items ≡ part_keys done i = flat_below done i rows.items (are.falls i rows is) ∙ sym (are.each i rows is) in
          subst (AreCountsOf base (take (i + 1) done)) (sym c.in_ok-push.ensures.items) (counts_more base done counts uses i low so_far.long (so_far.counted done are) (subst (λ keys. AreUsesOf base keys uses) all own));
    }

pub returns-clause-counts : goal.returns-clause-counts
returns-clause-counts c done are =
    subst (λ keys. AreCountsOf c.args.base.now keys c.parts.counts.items) (take_all c.parts.rows-index done (omega (arith, are.same, c.parts-test.false))) (c.parts.invariant.counted done are)
