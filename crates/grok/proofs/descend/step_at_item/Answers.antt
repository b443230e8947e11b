use Rattle.std.proofs.Common.{◌≡◌, ◌-◌, suc, Result, Ok, Err, IfOk, IsTrue, [], ◌∷◌, ◌++◌, refl, sym, ap, subst, arith, append-nil}
use Rattle.grok.specs.Tree.{Definitions, TooDeep, TextItem, FaultItem, PlaceholderItem, Open, Close, Text, FaultEvent, meaning_text, items_of, events, inside}
use Rattle.grok.specs.Items.{item_view, label_view, meaning_view, fault_view}
use Rattle.grok.specs.ByteLocations.{Regular, Opening, Closing, Broken, Deep}
use Rattle.grok.specs.steps.PlacedItems.{IsOfLibrary}
use Rattle.grok.specs.steps.Searches.{IsReadyFor, Passes, StopsAt}
use Rattle.grok.specs.steps.Descents.{StopsInItem}
use Rattle.grok.proofs.Trees.DescentFindsPlace.{last_step, passes_none, passes_both, ready_first, ready_then, ready_open, ready_opened}
use Rattle.grok.proofs.descend.step_at_item.Given.{Over}
use Rattle.grok.proofs.descend.step_at_item.Goals as goal
use Rattle.grok.proofs.descend.step_at_item.Goals.{In_ok-is_passed-in-Placeholder}

if_ok : {A E : Type 0} (P Q : A → Type 0) (r : Result A E) → ((x : A) → P x → Q x) → IfOk r P → IfOk r Q
if_ok P Q (Ok x) more is = more x is
if_ok P Q (Err e) more is = tt

pub returns-in-Text-clause-step : goal.returns-in-Text-clause-step
returns-in-Text-clause-step g c =
    let s = g.S.Search in
    let old = c.args.search.now in
    let text = c.in-Text.text.now in
    rw c.in-Text.is (if_ok _ _ c.step_at_event.result
    (last_step (Passes s.IsReady s.HasPassed) (StopsAt s.HasPassed s.IsSought) (s.definitions old) (passes_both s.IsReady s.HasPassed) c.args.levels (TextItem text) [] (Text text) old old c.step_at_event.new.search
    (Regular c.args.levels text) refl (passes_none s.IsReady s.HasPassed old)) c.step_at_event.ensures.step)

pub returns-in-Fault-clause-step : goal.returns-in-Fault-clause-step
returns-in-Fault-clause-step g c =
    let s = g.S.Search in
    let old = c.args.search.now in
    let fault = fault_view c.in-Fault.fault in
    rw c.in-Fault.is (if_ok _ _ c.step_at_event-in-Fault.result
    (last_step (Passes s.IsReady s.HasPassed) (StopsAt s.HasPassed s.IsSought) (s.definitions old) (passes_both s.IsReady s.HasPassed) c.args.levels (FaultItem fault) [] (FaultEvent fault) old old c.step_at_event-in-Fault.new.search
    (Broken c.args.levels fault) refl (passes_none s.IsReady s.HasPassed old)) c.step_at_event-in-Fault.ensures.step)

pub returns-then-not-is_passed-clause-step : goal.returns-then-not-is_passed-clause-step
returns-then-not-is_passed-clause-step g c =
    let s = g.S.Search in
    let old = c.args.search.now in
    let new = c.pass_event.new.self in
    let label = label_view c.in-Placeholder.label in
    let meaning = meaning_view c.in-Placeholder.meaning in
    let stopped = c.in_ok-is_passed-in-Placeholder.ensures.stopped c.if-not-is_passed.true in
    let same = c.in_ok-is_passed-in-Placeholder.ensures.same c.if-not-is_passed.true in
    let here : StopsInItem (Passes s.IsReady s.HasPassed) (StopsAt s.HasPassed s.IsSought) (s.definitions old) c.args.levels (PlaceholderItem label meaning) old new = record {
      own = [];
      event = Open label meaning;
      is_own = Opening c.args.levels label meaning;
      passed = subst ((Passes s.IsReady s.HasPassed) old []) (sym same) (passes_none s.IsReady s.HasPassed old);
      stopped = subst (λ at. (StopsAt s.HasPassed s.IsSought) at (Open label meaning)) (sym same) stopped;
    } in
    rw c.in-Placeholder.is here

pub returns-then-levels-eq0-clause-step : goal.returns-then-levels-eq0-clause-step
returns-then-levels-eq0-clause-step g c =
    let s = g.S.Search in
    let old = c.args.search.now in
    let mid = c.pass_event.new.self in
    let label = label_view c.in-Placeholder.label in
    let meaning = meaning_view c.in-Placeholder.meaning in
    let none : c.args.levels ≡ 0 = omega arith in
    rw (c.in-Placeholder.is, none) (if_ok _ _ c.step_at_event-then-levels-eq0.result
    (last_step (Passes s.IsReady s.HasPassed) (StopsAt s.HasPassed s.IsSought) (s.definitions old) (passes_both s.IsReady s.HasPassed) 0 (PlaceholderItem label meaning) (Open label meaning ∷ []) (FaultEvent TooDeep)
    old mid c.step_at_event-then-levels-eq0.new.search (Deep label meaning) refl (c.in_ok-is_passed-in-Placeholder.ensures.passed c.if-not-is_passed.false, c.in_ok-is_passed-in-Placeholder.ensures.ready c.if-not-is_passed.false)) c.step_at_event-then-levels-eq0.ensures.step)

pub returns-then-branch-clause-step : goal.returns-then-branch-clause-step
returns-then-branch-clause-step g c =
    let s = g.S.Search in
    let old = c.args.search.now in
    let opened = c.pass_event.new.self in
    let mid = c.pass_meaning.new.search in
    let label = label_view c.in-Placeholder.label in
    let meaning = meaning_view c.in-Placeholder.meaning in
    let below = c.args.levels - 1 in
    let levels : c.args.levels ≡ suc below = let some : c.args.levels ≡ 0 → ⊥ = c.if-levels-eq0.false in omega arith in
    let inner = events (inside (items_of (s.definitions old)) below) (items_of (s.definitions old) (meaning_text meaning)) in
    let passed : (Passes s.IsReady s.HasPassed) opened inner mid = rw (← c.in_ok-is_passed-in-Placeholder.ensures.definitions) (rw c.if-branch.true at c.in_ok-pass_meaning-in-Placeholder.ensures.passed) in
    rw (c.in-Placeholder.is, levels) (if_ok _ _ c.step_at_event-then-branch.result
    (last_step (Passes s.IsReady s.HasPassed) (StopsAt s.HasPassed s.IsSought) (s.definitions old) (passes_both s.IsReady s.HasPassed) (suc below) (PlaceholderItem label meaning) (Open label meaning ∷ inner) Close
    old mid c.step_at_event-then-branch.new.search (Closing below label meaning) (ap (λ es. Open label meaning ∷ es) (append-nil (inner ++ Close ∷ [])))
    ((passes_both s.IsReady s.HasPassed) old opened mid (Open label meaning ∷ []) inner (c.in_ok-is_passed-in-Placeholder.ensures.passed c.if-not-is_passed.false, c.in_ok-is_passed-in-Placeholder.ensures.ready c.if-not-is_passed.false) passed)) c.step_at_event-then-branch.ensures.step)

pub returns-else-branch-clause-step : goal.returns-else-branch-clause-step
returns-else-branch-clause-step g c =
    let s = g.S.Search in
    let old = c.args.search.now in
    let opened = c.pass_event.new.self in
    let new = c.pass_meaning.new.search in
    let label = label_view c.in-Placeholder.label in
    let meaning = meaning_view c.in-Placeholder.meaning in
    let nothing : (Passes s.IsReady s.HasPassed) opened [] new = rw c.if-branch.false at c.in_ok-pass_meaning-in-Placeholder.ensures.passed in
    record {
      label = label;
      is = ap item_view c.in-Placeholder.is;
      named = refl;
      below = c.args.levels - 1;
      room = let some : c.args.levels ≡ 0 → ⊥ = c.if-levels-eq0.false in omega arith;
      passed = (passes_both s.IsReady s.HasPassed) old opened new (Open label meaning ∷ []) [] (c.in_ok-is_passed-in-Placeholder.ensures.passed c.if-not-is_passed.false, c.in_ok-is_passed-in-Placeholder.ensures.ready c.if-not-is_passed.false) nothing;
    }

-- ---- the search can go on

pub step_at_event-requires : goal.step_at_event-requires
step_at_event-requires g c κs = ((refl, tt), rw c.in-Text.is at c.requires.ready)

pub step_at_event-requires-in-Fault : goal.step_at_event-requires-in-Fault
step_at_event-requires-in-Fault g c κs = ((refl, tt), rw c.in-Fault.is at c.requires.ready)

pub pass_event-requires : goal.pass_event-requires
pass_event-requires g c κs =
    let s = g.S.Search in
    let old = c.args.search.now in
    ((refl, tt), ready_open s.IsReady (s.definitions old) c.args.levels (label_view c.in-Placeholder.label) (meaning_view c.in-Placeholder.meaning) old (rw c.in-Placeholder.is at c.requires.ready))

-- the placeholder is open
opened : (g : Over) (c : In_ok-is_passed-in-Placeholder g) → IsTrue c.in_ok-is_passed-in-Placeholder.is_passed → IsReadyFor g.S.Search.IsReady c.pass_event.new.self (inside (items_of (g.S.Search.definitions c.args.search.now)) c.args.levels (meaning_text (meaning_view c.in-Placeholder.meaning)))
opened g c is_passed =
    let s = g.S.Search in
    let old = c.args.search.now in
    ready_opened s.IsReady (s.definitions old) c.args.levels (label_view c.in-Placeholder.label) (meaning_view c.in-Placeholder.meaning) old (rw c.in-Placeholder.is at c.requires.ready) c.pass_event.new.self (c.in_ok-is_passed-in-Placeholder.ensures.ready is_passed)

pub step_at_event-requires-then-levels-eq0 : goal.step_at_event-requires-then-levels-eq0
step_at_event-requires-then-levels-eq0 g c κs =
    let none : c.args.levels ≡ 0 = omega arith in
    ((refl, tt), rw none at (opened g (goal.at.step_at_event-requires-then-levels-eq0 g c).In_ok-is_passed-in-Placeholder c.if-not-is_passed.false))

pub pass_meaning-requires : goal.pass_meaning-requires
pass_meaning-requires g c κs =
    let s = g.S.Search in
    let old = c.args.search.now in
    let mid = c.pass_event.new.self in
    let meaning = meaning_view c.in-Placeholder.meaning in
    let below = c.args.levels - 1 in
    let levels : c.args.levels ≡ suc below = let some : c.args.levels ≡ 0 → ⊥ = c.if-levels-eq0.false in omega arith in
    let inner = events (inside (items_of (s.definitions old)) below) (items_of (s.definitions old) (meaning_text meaning)) in
    let ready : IsReadyFor s.IsReady mid inner = ready_first s.IsReady mid inner (Close ∷ []) (rw levels at (opened g (goal.at.pass_meaning-requires g c).In_ok-is_passed-in-Placeholder c.if-not-is_passed.false)) in
    let same = sym c.in_ok-is_passed-in-Placeholder.ensures.definitions in (
      (refl, tt),
      (
        omega (arith, c.requires.few),
        (
          subst (λ (stored : Definitions). IsReadyFor s.IsReady mid (events (inside (items_of stored) below) (items_of stored (meaning_text meaning)))) same ready,
          subst (λ (stored : Definitions). IsOfLibrary stored (PlaceholderItem (label_view c.in-Placeholder.label) meaning)) same (rw c.in-Placeholder.is at c.requires.is),
        ),
      ),
    )

pub step_at_event-requires-then-branch : goal.step_at_event-requires-then-branch
step_at_event-requires-then-branch g c κs =
    let s = g.S.Search in
    let old = c.args.search.now in
    let opened_at = c.pass_event.new.self in
    let mid = c.pass_meaning.new.search in
    let meaning = meaning_view c.in-Placeholder.meaning in
    let below = c.args.levels - 1 in
    let levels : c.args.levels ≡ suc below = let some : c.args.levels ≡ 0 → ⊥ = c.if-levels-eq0.false in omega arith in
    let inner = events (inside (items_of (s.definitions old)) below) (items_of (s.definitions old) (meaning_text meaning)) in
    let passed : Passes s.IsReady s.HasPassed opened_at inner mid = rw (← c.in_ok-is_passed-in-Placeholder.ensures.definitions) (rw c.if-branch.true at c.in_ok-pass_meaning-in-Placeholder.ensures.passed) in
    ((refl, tt), ready_then s.IsReady opened_at mid inner (Close ∷ []) (rw levels at (opened g (goal.at.step_at_event-requires-then-branch g c).In_ok-is_passed-in-Placeholder c.if-not-is_passed.false)) passed.1)
