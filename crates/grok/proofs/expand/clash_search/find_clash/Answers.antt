use Rattle.std.proofs.Common.{◌≡◌, length, sym, ◌∙◌, ap, subst, arith}
use Rattle.std.proofs.lemmas.Option.{none-some, same_Some}
use Rattle.grok.specs.declared.expand.clash_search.FoundClash.{FoundClash}
use Rattle.grok.specs.steps.Rows.{flat, AreBelow}
use Rattle.grok.specs.steps.CountedUses.{IsCutOrSame, HasBasesOf}
use Rattle.grok.proofs.Keys.ClashIsCut.{cut_again, cut_is_fewer, finds_clash}
use Rattle.grok.proofs.Keys.BasesOfRows.{LeavesFree, one_more_free, all_free}
use Rattle.grok.proofs.expand.clash_search.find_clash.Goals as goal
use Rattle.grok.proofs.expand.clash_search.find_clash.Goals.{in_default-found-via-in-Some-found+else-clash, in_default-found-via-in_default-found}

pub bases_of-requires : goal.bases_of-requires
bases_of-requires c = subst (AreBelow (length c.args.parts.now)) (sym c.deref.ensures.value) c.requires.below

pub bases-preserved-in-Some-2 : goal.bases-preserved-in-Some-2
bases-preserved-in-Some-2 c = record {
  below = c.in_ok-clash.ensures.below;
  cut = λ done are.
      let mid = flat done c.bases.top.items in
      let new = flat done c.cut.new.top.items in
      cut_again (flat done c.args.top.now.items) mid new c.bases.found c.in-Some-2.clash (c.bases.invariant.cut done are) (subst (λ stop. IsCutOrSame mid new stop) c.in-Some-2.is (c.in_ok-clash.ensures.cut done are));
  free = λ done are.
      let mid = flat done c.bases.top.items in
      let new = flat done c.cut.new.top.items in
      one_more_free mid new (c.in-Some.base.now, c.in-Some.field-0-1.now) c.next.new.self c.bases.base-iterator c.into_iter-base-iterator.result c.in-Some.ensures.steps
      (cut_is_fewer mid new c.in_ok-clash.field-0 (c.in_ok-clash.ensures.cut done are)) (c.in_ok-clash.ensures.free done are) (c.bases.invariant.free done are);
}

pub bases-preserved : goal.bases-preserved
bases-preserved c = record {
  below = c.in_ok-clash.ensures.below;
  cut = λ done are.
      let old = flat done c.args.top.now.items in
      let mid = flat done c.bases.top.items in
      let new = flat done c.cut.new.top.items in
      let same : new ≡ mid = subst (λ stop. IsCutOrSame mid new stop) c.in_default.is (c.in_ok-clash.ensures.cut done are) in
      subst (λ keys. IsCutOrSame old keys c.bases.found) (sym same) (c.bases.invariant.cut done are);
  free = λ done are.
      let mid = flat done c.bases.top.items in
      let new = flat done c.cut.new.top.items in
      one_more_free mid new (c.in-Some.base.now, c.in-Some.field-0-1.now) c.next.new.self c.bases.base-iterator c.into_iter-base-iterator.result c.in-Some.ensures.steps
      (cut_is_fewer mid new c.in_ok-clash.field-0 (c.in_ok-clash.ensures.cut done are)) (c.in_ok-clash.ensures.free done are) (c.bases.invariant.free done are);
}

pub returns : goal.returns
returns c done are =
    let old = flat done c.args.top.now.items in
    let new = flat done c.bases.top.items in
    let bases = c.in_ok-bases.bases in
    let cut = c.bases.invariant.cut done are in
    let have = subst (λ rows. HasBasesOf (flat done rows) bases) c.deref.ensures.value (c.in_ok-bases.ensures done are) in
    let leaves = subst (LeavesFree new c.bases.base-iterator) c.into_iter-base-iterator.ensures.into_iter_gives.0 (c.bases.invariant.free done are) in
    let free = all_free old new bases c.bases.base-iterator c.in-None.ensures.steps.0 (cut_is_fewer old new c.bases.found cut) have leaves in
    finds_clash old new c.bases.found cut free (λ clash is great. elim c.in_default-found.branch [
      | in_default-found-via-in-Some-found+else-clash w ↦
          let same : w.in-Some-found.clash ≡ clash = same_Some w.in-Some-found.clash clash (sym w.in-Some-found.is ∙ is) in
          let number : w.in-Some-found.clash.number ≡ clash.number = ap (λ (f : FoundClash). f.number) same in
          omega (arith, number, great, w.if-clash.false)
      | in_default-found-via-in_default-found w ↦ none-some clash (sym w.in_default-found.is ∙ is)
    ])
