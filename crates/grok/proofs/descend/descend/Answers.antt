use Rattle.std.proofs.Common.{◌≡◌, ◌-◌, ◌≤◌, ◌<◌, ℕ, List, Bor, [], ◌∷◌, ◌++◌, length, refl, sym, ◌∙◌, ap, subst, arith}
use Rattle.std.proofs.lemmas.List.{nil_from_length}
use Rattle.std.specs.FinMap as finite
use Rattle.grok.specs.Tree.{Definitions, deepest, items_of, events, inside}
use Rattle.grok.specs.Items.{item_view, meaning_view}
use Rattle.grok.specs.FaultLocations.{IsPieceAt}
use Rattle.grok.specs.steps.PlacedItems.{IsOfLibrary, HasRead, left_in}
use Rattle.grok.specs.steps.Searches.{IsReadyFor, Passes, StopsAt}
use Rattle.grok.specs.steps.Descents.{IsStep, EntersItem, path_of}
use Rattle.grok.specs.declared.descend.Opened.{Opened}
use Rattle.grok.proofs.Trees.DescentFindsPlace.{descending_starts, descending_fits, descending_levels, descending_goes_on, descending_stops, descending_enters, descending_ends, closes_on, closes_here, found_at, step_fewer, enter_fewer, close_fewer, all_passed, passes_none, passes_both, descending_ready, closes_ready}
use Rattle.grok.proofs.descend.descend.Given.{Over}
use Rattle.grok.proofs.descend.descend.Goals as goal
use Rattle.grok.proofs.descend.descend.Goals.{In-Some, In_ok-step_at_item-in-Some, In_ok-push-in-Entered, In-None}

-- ---- what the goals at an item share

-- the item stands in the text, after those that were read
stands : (g : Over) (c : In-Some g) → IsPieceAt (finite.get c.args.grok.now) c.items.inner.text.now c.items.invariant.descending.before c.in-Some.placed.range.start c.in-Some.placed.range.end (item_view c.in-Some.placed.item)
    × IsOfLibrary (finite.get c.args.grok.now) (item_view c.in-Some.placed.item)
    × HasRead (finite.get c.args.grok.now) (c.items.invariant.descending.before ++ item_view c.in-Some.placed.item ∷ []) c.next.new.self
stands g c = rw c.in-Some.is at (c.in_ok-placed.ensures.stands (finite.get c.args.grok.now) c.items.invariant.descending.before c.items.invariant.descending.read)

cut : (g : Over) (c : In-Some g) → left_in c.items.inner ≡ item_view c.in-Some.placed.item ∷ left_in c.next.new.self
cut g c = rw c.in-Some.is at c.in_ok-placed.ensures.left

stepped : (g : Over) (c : In_ok-step_at_item-in-Some g) → IsStep (Passes g.S.Search.IsReady g.S.Search.HasPassed) (StopsAt g.S.Search.HasPassed g.S.Search.IsSought) (finite.get c.args.grok.now) c.items.invariant.descending.levels
    (item_view c.in-Some.placed.item) c.in_ok-step_at_item-in-Some.field-0 c.items.search c.step_at_item.new.search
stepped g c =
    let s = g.S.Search in
    let stored = finite.get c.args.grok.now in
    let inv = c.items.invariant in
    let item = item_view c.in-Some.placed.item in
    let found = c.in_ok-step_at_item-in-Some.field-0 in
    let levels : deepest - c.len.result ≡ inv.descending.levels = ap (λ n. deepest - n) (c.len.ensures ∙ c.items.around.ok.0)
    ∙ sym (descending_levels (Passes s.IsReady s.HasPassed) (StopsAt s.HasPassed s.IsSought) stored (passes_both s.IsReady s.HasPassed) c.args.pattern.now c.args.search.now c.items.around.items c.items.inner c.items.search inv.descending) in
    subst (λ n. IsStep (Passes s.IsReady s.HasPassed) (StopsAt s.HasPassed s.IsSought) stored n item found c.items.search c.step_at_item.new.search) levels
    (subst (λ (stored : Definitions). IsStep (Passes s.IsReady s.HasPassed) (StopsAt s.HasPassed s.IsSought) stored (deepest - c.len.result) item found c.items.search c.step_at_item.new.search) (inv.library ∙ c.requires.library) c.in_ok-step_at_item-in-Some.ensures.step)

-- ---- the goals

pub items-init : goal.items-init
items-init g c =
    let s = g.S.Search in
    record {
      library = refl;
      descending = descending_starts (Passes s.IsReady s.HasPassed) (StopsAt s.HasPassed s.IsSought) (finite.get c.args.grok.now) (passes_both s.IsReady s.HasPassed) c.args.pattern.now c.args.search.now c.new-around.result.items c.of_text-inner.result c.new-around.ensures.items
          (ap (λ (text : Bor (List ℕ)). text.now) c.of_text-inner.ensures.text) c.of_text-inner.ensures.read (passes_none s.IsReady s.HasPassed c.args.search.now);
    }

pub overflow_sub-len : goal.overflow_sub-len
overflow_sub-len g c =
    let s = g.S.Search in
    let fits : length c.items.around.items ≤ deepest = descending_fits (Passes s.IsReady s.HasPassed) (StopsAt s.HasPassed s.IsSought) (finite.get c.args.grok.now) (passes_both s.IsReady s.HasPassed) c.args.pattern.now c.args.search.now c.items.around.items c.items.inner c.items.search
    c.items.invariant.descending in
    let many : c.len.result ≡ length c.items.around.items = c.len.ensures ∙ c.items.around.ok.0 in
    omega arith

pub step_at_item-requires : goal.step_at_item-requires
step_at_item-requires g c κs =
    let s = g.S.Search in
    let stored = finite.get c.args.grok.now in
    let inv = c.items.invariant in
    let d = inv.descending in
    let library : stored ≡ s.definitions c.items.search = sym (inv.library ∙ c.requires.library) in
    let levels : deepest - c.len.result ≡ d.levels = ap (λ n. deepest - n) (c.len.ensures ∙ c.items.around.ok.0)
    ∙ sym (descending_levels (Passes s.IsReady s.HasPassed) (StopsAt s.HasPassed s.IsSought) stored (passes_both s.IsReady s.HasPassed) c.args.pattern.now c.args.search.now c.items.around.items c.items.inner c.items.search d) in
    let placed = c.in-Some.placed in
    let item = item_view placed.item in
    let (stands, of_library, read) = rw c.in-Some.is at (c.in_ok-placed.ensures.stands stored d.before d.read) in
    let ready : IsReadyFor s.IsReady c.items.search (events (inside (items_of stored) (deepest - c.len.result)) (item ∷ [])) =
    subst (λ n. IsReadyFor s.IsReady c.items.search (events (inside (items_of stored) n) (item ∷ []))) (sym levels) (descending_ready s.IsReady s.HasPassed stored c.args.pattern.now c.args.search.now c.requires.ready c.items.around.items c.items.inner c.items.search d placed.range.start placed.range.end item stands) in
    ((refl, tt), (omega arith, (subst (λ (stored : Definitions). IsReadyFor s.IsReady c.items.search (events (inside (items_of stored) (deepest - c.len.result)) (item ∷ []))) library ready, subst (λ (stored : Definitions). IsOfLibrary stored item) library of_library)))

pub items-smaller-in-Passed : goal.items-smaller-in-Passed
items-smaller-in-Passed g c =
    step_fewer (finite.get c.args.grok.now) c.items.around.items (left_in c.items.inner) (item_view c.in-Some.placed.item) (left_in c.next.new.self) (cut g (goal.at.items-smaller-in-Passed g c).In-Some)

pub items-preserved-in-Passed : goal.items-preserved-in-Passed
items-preserved-in-Passed g c =
    let s = g.S.Search in
    let inv = c.items.invariant in
    let at = goal.at.items-preserved-in-Passed g c in
    let (stands, of_library, read) = stands g at.In-Some in
    record {
      library = c.in_ok-step_at_item-in-Some.ensures.definitions ∙ inv.library;
      descending = descending_goes_on (Passes s.IsReady s.HasPassed) (StopsAt s.HasPassed s.IsSought) (finite.get c.args.grok.now) (passes_both s.IsReady s.HasPassed) c.args.pattern.now c.args.search.now c.items.around.items c.items.inner c.items.search inv.descending
          c.next.new.self c.in_ok-placed.ensures.text c.in-Some.placed stands read c.step_at_item.new.search (rw c.in-Passed.is at (stepped g at.In_ok-step_at_item-in-Some));
    }

pub returns-in-Stopped-clause-found : goal.returns-in-Stopped-clause-found
returns-in-Stopped-clause-found g c =
    let s = g.S.Search in
    let stored = finite.get c.args.grok.now in
    let pattern = c.args.pattern.now in
    let old = c.args.search.now in
    let around = c.items.around.items in
    let placed = c.in-Some.placed in
    let new = c.step_at_item.new.search in
    let at = goal.at.returns-in-Stopped-clause-found g c in
    let (stands, of_library, read) = stands g at.In-Some in
    let place = c.in_ok-place_of-in-Stopped in
    let here = descending_stops (Passes s.IsReady s.HasPassed) (StopsAt s.HasPassed s.IsSought) stored (passes_both s.IsReady s.HasPassed) pattern old around c.items.inner c.items.search c.items.invariant.descending
    c.next.new.self c.in_ok-placed.ensures.text placed stands read new (rw c.in-Stopped.is at (stepped g at.In_ok-step_at_item-in-Some)) in
    found_at s.IsReady s.HasPassed s.IsSought stored pattern old new c.requires.begins around c.next.new.self.text.now placed place.field-0 here
    (place.ensures.path ∙ ap path_of c.deref.ensures.value) (ap (λ (text : Bor (List ℕ)). text.now) place.ensures.text) place.ensures.placed

-- the definition of the item is entered
enters : (g : Over) (c : In_ok-push-in-Entered g) → EntersItem (Passes g.S.Search.IsReady g.S.Search.HasPassed) c.items.invariant.descending.levels (item_view c.in-Some.placed.item) c.in-Entered.name.now (meaning_view c.in-Entered.meaning) c.items.search c.step_at_item.new.search
enters g c = rw c.in-Entered.is at (stepped g (goal.at.items-smaller-in_ok-push-in-Entered g c).In_ok-step_at_item-in-Some)

pub items-smaller-in_ok-push-in-Entered : goal.items-smaller-in_ok-push-in-Entered
items-smaller-in_ok-push-in-Entered g c =
    let s = g.S.Search in
    let stored = finite.get c.args.grok.now in
    let around = c.items.around.items in
    let placed = c.in-Some.placed in
    let at = goal.at.items-smaller-in_ok-push-in-Entered g c in
    let e = enters g at.In_ok-push-in-Entered in
    let opened : Opened = record { placed = placed; name = c.in-Entered.name; items = c.enter-items.result } in
    let room : length around < deepest = omega (arith, e.room, descending_levels (Passes s.IsReady s.HasPassed) (StopsAt s.HasPassed s.IsSought) stored (passes_both s.IsReady s.HasPassed) c.args.pattern.now c.args.search.now around c.items.inner c.items.search c.items.invariant.descending) in
    enter_fewer stored around (left_in c.items.inner) (item_view placed.item) (left_in c.next.new.self) e.label (meaning_view c.in-Entered.meaning) c.push.new.self.items opened (left_in c.enter-items.new.self) (cut g at.In-Some) e.is room
    c.in_ok-push-in-Entered.ensures.items (ap left_in c.enter-items.ensures.around) c.enter-items.ensures.left

pub items-preserved-in_ok-push-in-Entered : goal.items-preserved-in_ok-push-in-Entered
items-preserved-in_ok-push-in-Entered g c =
    let s = g.S.Search in
    let inv = c.items.invariant in
    let placed = c.in-Some.placed in
    let new = c.step_at_item.new.search in
    let at = goal.at.items-preserved-in_ok-push-in-Entered g c in
    let (stands, of_library, read) = stands g at.In-Some in
    let e = enters g at.In_ok-push-in-Entered in
    let opened : Opened = record { placed = placed; name = c.in-Entered.name; items = c.enter-items.result } in
    record {
      library = c.in_ok-step_at_item-in-Some.ensures.definitions ∙ inv.library;
      descending = descending_enters (Passes s.IsReady s.HasPassed) (StopsAt s.HasPassed s.IsSought) (finite.get c.args.grok.now) (passes_both s.IsReady s.HasPassed) c.args.pattern.now c.args.search.now c.items.around.items c.items.inner c.items.search inv.descending
          c.next.new.self c.in_ok-placed.ensures.text placed stands read new opened (meaning_view c.in-Entered.meaning) c.push.new.self.items c.enter-items.new.self e refl c.enter-items.ensures.around c.in_ok-push-in-Entered.ensures.items
          c.enter-items.ensures.text c.enter-items.ensures.read (passes_none s.IsReady s.HasPassed new);
    }

-- ---- the end of a text

-- all items of the text were read
over : (g : Over) (c : In-None g) → items_of (finite.get c.args.grok.now) c.items.inner.text.now ≡ c.items.invariant.descending.before
over g c = rw c.in-None.is at (c.in_ok-placed.ensures.stands (finite.get c.args.grok.now) c.items.invariant.descending.before c.items.invariant.descending.read)

pub returns-in_default-clause-found : goal.returns-in_default-clause-found
returns-in_default-clause-found g c =
    let s = g.S.Search in
    let stored = finite.get c.args.grok.now in
    let pattern = c.args.pattern.now in
    let old = c.args.search.now in
    let around = c.items.around.items in
    let inner = c.items.inner in
    let mid = c.items.search in
    let inv = c.items.invariant in
    let d = inv.descending in
    let over = over g (goal.at.returns-in_default-clause-found g c).In-None in
    all_passed s.IsReady s.HasPassed s.IsSought stored pattern old mid c.requires.begins (descending_ends (Passes s.IsReady s.HasPassed) (StopsAt s.HasPassed s.IsSought) stored (passes_both s.IsReady s.HasPassed) pattern old around inner mid d over (nil_from_length around (omega (arith, c.items.around.ok.0, c.in_default.ensures.cases.0))))

pub pass_event-requires : goal.pass_event-requires
pass_event-requires g c κs =
    let s = g.S.Search in
    let inv = c.items.invariant in
    let over = over g (goal.at.pass_event-requires g c).In-None in
    ((refl, tt), closes_ready s.IsReady s.HasPassed (finite.get c.args.grok.now) c.args.pattern.now c.args.search.now c.requires.ready c.items.around.items c.items.inner c.items.search inv.descending s.IsSought over c.pop.new.self.items c.in-Some-pop.outer c.in-Some-pop.ensures.items)

pub returns-then-not-is_passed-clause-found : goal.returns-then-not-is_passed-clause-found
returns-then-not-is_passed-clause-found g c =
    let s = g.S.Search in
    let stored = finite.get c.args.grok.now in
    let pattern = c.args.pattern.now in
    let old = c.args.search.now in
    let around = c.items.around.items in
    let inner = c.items.inner in
    let mid = c.items.search in
    let inv = c.items.invariant in
    let d = inv.descending in
    let over = over g (goal.at.returns-then-not-is_passed-clause-found g c).In-None in
    let outside = c.pop.new.self.items in
    let outer = c.in-Some-pop.outer in
    let new = c.pass_event.new.self in
    let place = c.in_ok-place_of-in-None in
    let here = closes_here (Passes s.IsReady s.HasPassed) (StopsAt s.HasPassed s.IsSought) stored (passes_both s.IsReady s.HasPassed) pattern old around inner mid d over outside outer c.in-Some-pop.ensures.items new (c.in_ok-is_passed-in-None.ensures.stopped c.if-not-is_passed.true, c.in_ok-is_passed-in-None.ensures.same c.if-not-is_passed.true) in
    found_at s.IsReady s.HasPassed s.IsSought stored pattern old new c.requires.begins outside outer.items.text.now outer.placed place.field-0 here
    (place.ensures.path ∙ ap path_of c.deref-then-not-is_passed.ensures.value) (ap (λ (text : Bor (List ℕ)). text.now) place.ensures.text) place.ensures.placed

pub items-smaller : goal.items-smaller
items-smaller g c =
    let stored = finite.get c.args.grok.now in
    let around = c.items.around.items in
    let inner = c.items.inner in
    let empty : left_in inner ≡ [] = rw c.in-None.is at c.in_ok-placed.ensures.left in
    let outside = c.pop.new.self.items in
    let outer = c.in-Some-pop.outer in
    close_fewer stored around (left_in inner) outside outer empty c.in-Some-pop.ensures.items

pub items-preserved : goal.items-preserved
items-preserved g c =
    let s = g.S.Search in
    let stored = finite.get c.args.grok.now in
    let pattern = c.args.pattern.now in
    let old = c.args.search.now in
    let around = c.items.around.items in
    let inner = c.items.inner in
    let mid = c.items.search in
    let inv = c.items.invariant in
    let d = inv.descending in
    let over = over g (goal.at.items-preserved g c).In-None in
    let outside = c.pop.new.self.items in
    let outer = c.in-Some-pop.outer in
    let new = c.pass_event.new.self in
    record {
      library = c.in_ok-is_passed-in-None.ensures.definitions ∙ inv.library;
      descending = closes_on (Passes s.IsReady s.HasPassed) (StopsAt s.HasPassed s.IsSought) stored (passes_both s.IsReady s.HasPassed) pattern old around inner mid d over outside outer c.in-Some-pop.ensures.items new (c.in_ok-is_passed-in-None.ensures.passed c.if-not-is_passed.false, c.in_ok-is_passed-in-None.ensures.ready c.if-not-is_passed.false);
    }
