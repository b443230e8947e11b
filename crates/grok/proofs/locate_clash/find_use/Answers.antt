use Rattle.std.proofs.Common.{List, [], Vec, refl, sym, subst, arith}
use Rattle.std.specs.Global.{Global}
use Rattle.grok.specs.Tree.{tree}
use Rattle.grok.specs.Items.{item_view}
use Rattle.grok.specs.steps.Rows.{AreKeysOfParts}
use Rattle.grok.specs.steps.CountedUses.{AreCountsOf}
use Rattle.grok.specs.steps.UseSearches.{CanSearch, HasPassedUses}
use Rattle.grok.specs.declared.expand.rows.Row.{Row}
use Rattle.grok.specs.declared.locate_clash.UseSearch.{UseSearch}
use Rattle.grok.proofs.Keys.UsesArePassed.{use_found}
use Rattle.grok.proofs.locate_clash.find_use.Goals as goal

pub descend-requires : goal.descend-requires
descend-requires c k =
    let search : UseSearch = record { settings = c.args.settings; parts = c.args.parts; counts = c.deref-2.result; base = c.args.base; left = c.args.number } in
    let known = c.requires.known in
    let keys : AreKeysOfParts c.deref.result.now known.done = subst (λ (parts : List (Vec Row Global)). AreKeysOfParts parts known.done) (sym c.deref.ensures.value) known.are_keys in
    let ready : CanSearch search = record {
      known = known;
      counted = subst (AreCountsOf c.args.base.now known.done) (sym c.deref-2.ensures.value) (c.in_ok-counts.ensures.counts known.done keys);
      low = c.requires.low;
    } in
    let begins : HasPassedUses search [] search = record { settings = refl; base = refl; fewer = omega arith } in
    ((refl, tt), (ready, (refl, begins)))

pub returns-in-None : goal.returns-in-None
unfolding tree
returns-in-None c = let p = rw c.in-None.is at c.in_ok-descend.ensures.found in omega (arith, p.fewer)

pub returns : goal.returns
returns c =
    let search : UseSearch = record { settings = c.args.settings; parts = c.args.parts; counts = c.deref-2.result; base = c.args.base; left = c.args.number } in
    let place = c.in-Some.place in
    let f = rw c.in-Some.is at c.in_ok-descend.ensures.found in
    use_found c.args.pattern.now place.location (item_view place.item) f.before f.event search f.stands f.sought
