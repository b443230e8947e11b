-- A search that goes through the events of a tree in order, and passes over some definitions at once, stops at the place
-- that `descend` returns.
use Rattle.std.proofs.Common.{◌≡◌, ℕ, suc, ◌+◌, ◌-◌, ◌<◌, ◌≤◌, List, [], ◌∷◌, ◌++◌, refl, sym, ◌∙◌, ap, subst, arith, append-nil, append_assoc, length, length-append, map}
use Rattle.std.proofs.lemmas.List.{map-append, length-map}
use Rattle.grok.specs.Tree.{Definitions, Label, Meaning, meaning_text, Item, PlaceholderItem, Event, Open, Close, items_of, events, inside, tree, deepest}
use Rattle.grok.specs.Items.{item_view}
use Rattle.grok.specs.FaultLocations.{IsPieceAt, path_view}
use Rattle.grok.specs.FaultLocations as location
use Rattle.grok.specs.ByteLocations.{IsOwnEvent, Closing, IsEventAt, Here, Inside}
use Rattle.grok.specs.steps.PlacedItems.{HasRead, left_in}
use Rattle.grok.specs.steps.Searches.{Needing, Passing, Seeking, IsReadyFor, StaysReady, Passes, StopsAt}
use Rattle.grok.specs.steps.Descents.{Stopping, StopsInItem, EntersItem, IsEventStep, IsStep, step_of, path_of, IsFoundAt}
use Rattle.grok.specs.declared.defs.placed_items.PlacedItem.{PlacedItem}
use Rattle.grok.specs.declared.defs.placed_items.PlacedItems.{PlacedItems}
use Rattle.grok.specs.declared.descend.Opened.{Opened}
use Rattle.grok.specs.declared.descend.Place.{Place}
use Rattle.grok.specs.declared.descend.Step.{Step}
use Rattle.grok.specs.declared.descend.Step.TheVariants as step
use Rattle.grok.proofs.Trees.EventsInTree.{events-append}
use Rattle.grok.proofs.Trees.EventsOnStack.{events_left, left_enter, left_close, left_item, some_event}
use Rattle.grok.proofs.Trees.EventsInTree.{event_follows}

nothing_snoc : {X : Type 0} (xs : List X) (x : X) → [] ≡ xs ++ x ∷ [] → ⊥
nothing_snoc [] x e = cc
nothing_snoc (y ∷ xs) x e = cc

snoc_same : {X : Type 0} (xs ys : List X) (x y : X) → xs ++ x ∷ [] ≡ ys ++ y ∷ [] → (xs ≡ ys) × (x ≡ y)
snoc_same [] [] x y e = let same : x ≡ y = cc in (refl, same)
snoc_same [] (z ∷ ys) x y e = absurd (nothing_snoc ys y (let tails : [] ≡ ys ++ y ∷ [] = cc in tails))
snoc_same (z ∷ xs) [] x y e = absurd (nothing_snoc xs x (let tails : [] ≡ xs ++ x ∷ [] = cc in tails))
snoc_same (z ∷ xs) (w ∷ ys) x y e =
    let heads : z ≡ w = cc in
    let tails : xs ++ x ∷ [] ≡ ys ++ y ∷ [] = cc in
    let (front, last) = snoc_same xs ys x y tails in
    (ap (λ xs. z ∷ xs) front ∙ ap (λ z. z ∷ ys) heads, last)

-- ---- passing over more events

module _ {S : Type 0} (ready : Needing S) (passed : Passing S) where
  pub passes_none : (at : S) → Passes ready passed at [] at
  passes_none at = (λ start before p. subst (λ es. passed start es at) (sym (append-nil before)) p, λ rest is. is)

  pub passes_both : (old mid new : S) (es fs : List Event) → Passes ready passed old es mid → Passes ready passed mid fs new → Passes ready passed old (es ++ fs) new
  passes_both old mid new es fs front back = (
    λ start before p. subst (λ all. passed start all new) (append_assoc before es fs) (back.0 start (before ++ es) (front.0 start before p)),
    λ rest is. back.1 rest (front.1 (fs ++ rest) (subst (ready old) (append_assoc es fs rest) is)),
  )

-- ---- the events that remain

module _ {S : Type 0} (ready : Needing S) where
  pub ready_first : (at : S) (es fs : List Event) → IsReadyFor ready at (es ++ fs) → IsReadyFor ready at es
  ready_first at es fs r = record { rest = fs ++ r.rest; is = subst (ready at) (append_assoc es fs r.rest) r.is }

  pub ready_then : (old new : S) (es fs : List Event) → IsReadyFor ready old (es ++ fs) → StaysReady ready old es new → IsReadyFor ready new fs
  ready_then old new es fs r stays = record { rest = r.rest; is = stays (fs ++ r.rest) (subst (ready old) (append_assoc es fs r.rest) r.is) }

  pub ready_whole : (at : S) (es : List Event) → ready at es → IsReadyFor ready at es
  ready_whole at es is = record { rest = []; is = subst (ready at) (sym (append-nil es)) is }

  -- a placeholder comes next
  module _ (stored : Definitions) (levels : ℕ) (label : Label) (meaning : Meaning) (at : S) (r : IsReadyFor ready at (events (inside (items_of stored) levels) (PlaceholderItem label meaning ∷ []))) where
    pub ready_open : IsReadyFor ready at (Open label meaning ∷ [])
    ready_open = ready_first at (Open label meaning ∷ []) (inside (items_of stored) levels (meaning_text meaning) ++ []) r

    pub ready_opened : (mid : S) → StaysReady ready at (Open label meaning ∷ []) mid → IsReadyFor ready mid (inside (items_of stored) levels (meaning_text meaning))
    ready_opened mid stays =
        let own = inside (items_of stored) levels (meaning_text meaning) in
        ready_first mid own [] (ready_then at mid (Open label meaning ∷ []) (own ++ []) r stays)

-- ---- the state of the search

-- In the text of `opened`, the definition of a placeholder is entered. The search was at `start` before that text, and is
-- at `within` before that definition, of which `levels` levels are left.
pub record IsOpened {S : Type 0} (passes : Passing S) (stored : Definitions) (opened : Opened) (levels : ℕ) (start within : S)
    (before : List Item) (label : Label) (meaning : Meaning) : Type 0 where
  pub stands : IsPieceAt stored opened.items.text.now before opened.placed.range.start opened.placed.range.end (PlaceholderItem label meaning)
  pub is : item_view opened.placed.item ≡ PlaceholderItem label meaning
  pub named : label.name ≡ opened.name.now
  pub read : HasRead stored (before ++ PlaceholderItem label meaning ∷ []) opened.items
  pub passed : passes start (events (inside (items_of stored) (suc levels)) before ++ Open label meaning ∷ []) within

-- The texts around lead from the pattern to the text. The search was at `old` before the pattern, and at `start` before
-- the text.
pub data IsWayTo {S : Type 0} (passes : Passing S) (stored : Definitions) (pattern : List ℕ) (old : S) : (around : List Opened) (levels : ℕ) (text : List ℕ) (start : S) → Type 0 where
  Outermost : IsWayTo passes stored pattern old [] deepest pattern old
  Within : (around deeper : List Opened) (opened : Opened) (levels : ℕ) (start within : S) (before : List Item) (label : Label) (meaning : Meaning)
      → deeper ≡ around ++ opened ∷ []
      → IsWayTo passes stored pattern old around (suc levels) opened.items.text.now start
      → IsOpened passes stored opened levels start within before label meaning
      → IsWayTo passes stored pattern old deeper levels (meaning_text meaning) within

-- the items before the remaining ones of the innermost text, and all before that text, are passed over
pub record IsDescending {S : Type 0} (passes : Passing S) (stored : Definitions) (pattern : List ℕ) (old : S) (around : List Opened)
    (inner : PlacedItems) (new : S) : Type 0 where
  pub levels : ℕ
  pub start : S
  pub way : IsWayTo passes stored pattern old around levels inner.text.now start
  pub before : List Item
  pub read : HasRead stored before inner
  pub passed : passes start (events (inside (items_of stored) levels) before) new

-- the search of a text stops at an event of this piece
pub record IsStoppedAt {S : Type 0} (passes : Passing S) (stops : Stopping S) (stored : Definitions) (levels : ℕ) (text : List ℕ) (path : List location.Step)
    (found : List ℕ) (from to : ℕ) (item : Item) (old new : S) : Type 0 where
  pub before : List Event
  pub event : Event
  pub stands : IsEventAt stored levels text path found from to item before event
  pub passed : passes old before new
  pub stopped : stops new event

module _ {S : Type 0} (passes : Passing S) (stops : Stopping S) (stored : Definitions)
    (joins : (old mid new : S) (es fs : List Event) → passes old es mid → passes mid fs new → passes old (es ++ fs) new) where
  abbrev events_at : ℕ → List Item → List Event
  events_at levels items = events (inside (items_of stored) levels) items

  -- ---- items

  -- the step at the last event of an item
  pub last_step : (levels : ℕ) (item : Item) (own : List Event) (event : Event) (old mid new : S) → IsOwnEvent stored levels item own event
      → events (inside (items_of stored) levels) (item ∷ []) ≡ own ++ event ∷ [] → passes old own mid → (found : Step) → IsEventStep passes stops event found mid new → IsStep passes stops stored levels item found old new
  last_step levels item own event old mid new is_own whole front step.Passed one = subst (λ es. passes old es new) (sym whole) (joins old mid new own (event ∷ []) front one)
  last_step levels item own event old mid new is_own whole front step.Stopped (stopped, same) = record {
    own = own;
    event = event;
    is_own = is_own;
    passed = subst (passes old own) (sym same) front;
    stopped = subst (λ s. stops s event) (sym same) stopped;
  }
  last_step levels item own event old mid new is_own whole front (step.Entered name meaning) one = absurd one

  -- one more item
  one_more : (levels : ℕ) (before : List Item) (item : Item) (start mid new : S) → passes start (events (inside (items_of stored) levels) before) mid → passes mid (events (inside (items_of stored) levels) (item ∷ [])) new
      → passes start (events (inside (items_of stored) levels) (before ++ item ∷ [])) new
  one_more levels before item start mid new front one =
      subst (λ es. passes start es new) (sym (events-append (inside (items_of stored) levels) before (item ∷ []))) (joins start mid new (events_at levels before) (events_at levels (item ∷ [])) front one)

  -- ---- the texts around

  module _ (pattern : List ℕ) (old : S) where
    abbrev way_to : List Opened → ℕ → List ℕ → S → Type 0
    way_to = IsWayTo passes stored pattern old

    way_levels : (around : List Opened) (levels : ℕ) (text : List ℕ) (start : S) → way_to around levels text start → levels + length around ≡ deepest
    way_levels around levels text start Outermost = refl
    way_levels around levels text start (Within outside _ opened _ before _ items label meaning is way o) =
        omega (arith, way_levels outside (suc levels) opened.items.text.now before way, ap length is, length-append outside (opened ∷ []))

    -- a place in the innermost text is one of the pattern
    way_leads : (around : List Opened) (levels : ℕ) (text : List ℕ) (start : S) → way_to around levels text start
        → (rest : List location.Step) (found : List ℕ) (from to : ℕ) (item : Item) (new : S) → IsStoppedAt passes stops stored levels text rest found from to item start new
        → IsStoppedAt passes stops stored deepest pattern (path_of around ++ rest) found from to item old new
    way_leads around levels text start Outermost rest found from to item new u = u
    way_leads around levels text start (Within outside _ opened _ before _ items label meaning is way o) rest found from to item new u =
        let es = events_at (suc levels) items in
        let whole : IsStoppedAt passes stops stored (suc levels) opened.items.text.now (step_of opened ∷ rest) found from to item before new = record {
          before = es ++ Open label meaning ∷ u.before;
          event = u.event;
          stands = subst (λ name. IsEventAt stored (suc levels) opened.items.text.now (record { name = name; from = opened.placed.range.start; to = opened.placed.range.end } ∷ rest) found from to item (es ++ Open label meaning ∷ u.before) u.event) o.named
              (Inside levels opened.items.text.now items opened.placed.range.start opened.placed.range.end label meaning rest found from to item u.before u.event o.stands u.stands);
          passed = subst (λ es. passes before es new) (append_assoc es (Open label meaning ∷ []) u.before) (joins before start new (es ++ Open label meaning ∷ []) u.before o.passed u.passed);
          stopped = u.stopped;
        } in
        let longer : path_of around ++ rest ≡ path_of outside ++ step_of opened ∷ rest =
        ap (λ around. path_of around ++ rest) is ∙ ap (λ names. names ++ rest) (map-append step_of outside (opened ∷ [])) ∙ append_assoc (path_of outside) (step_of opened ∷ []) rest in
        subst (λ names. IsStoppedAt passes stops stored deepest pattern names found from to item old new) (sym longer) (way_leads outside (suc levels) opened.items.text.now before way (step_of opened ∷ rest) found from to item new whole)

    -- ---- the end of a text

    ends_by : (mid : S) (around : List Opened) (levels : ℕ) (text : List ℕ) (start : S) → way_to around levels text start → around ≡ [] → passes start (events (inside (items_of stored) levels) (items_of stored text)) mid → passes old (tree stored pattern) mid
    unfolding tree
    ends_by mid around levels text start Outermost none passed = passed
    ends_by mid around levels text start (Within outside _ opened _ before _ items label meaning is way o) none passed = absurd (nothing_snoc outside opened (sym none ∙ is))

    -- the definition of a placeholder of the outer text is passed over
    pub record Closes (mid : S) (outside : List Opened) (outer : Opened) : Type 0 where
      pub levels : ℕ
      pub start : S
      pub within : S
      pub before : List Item
      pub label : Label
      pub meaning : Meaning
      pub way : IsWayTo passes stored pattern old outside (suc levels) outer.items.text.now start
      pub opened : IsOpened passes stored outer levels start within before label meaning
      pub passed : passes within (events (inside (items_of stored) levels) (items_of stored (meaning_text meaning))) mid

    closes_by : (mid : S) (around : List Opened) (levels : ℕ) (text : List ℕ) (start : S) → way_to around levels text start → passes start (events (inside (items_of stored) levels) (items_of stored text)) mid
        → (outside : List Opened) (outer : Opened) → around ≡ outside ++ outer ∷ [] → Closes mid outside outer
    closes_by mid around levels text start Outermost passed outside outer is = absurd (nothing_snoc outside outer is)
    closes_by mid around levels text start (Within above _ opened _ before _ items label meaning is way o) passed outside outer around_is =
        let (texts, last) = snoc_same above outside opened outer (sym is ∙ around_is) in
        subst (λ outside. Closes mid outside outer) texts (subst (λ outer. Closes mid above outer) last (record { levels = levels; start = before; within = start; before = items; label = label; meaning = meaning; way = way; opened = o; passed = passed }))

    -- ---- steps of the search

    pub descending_starts : (around : List Opened) (inner : PlacedItems) → around ≡ [] → inner.text.now ≡ pattern → HasRead stored [] inner → passes old [] old → IsDescending passes stored pattern old around inner old
    descending_starts around inner none same read nothing = record {
      levels = deepest;
      start = old;
      way = subst (λ text. way_to around deepest text old) (sym same) (subst (λ around. way_to around deepest pattern old) (sym none) Outermost);
      before = [];
      read = read;
      passed = nothing;
    }

    module _ (around : List Opened) (inner : PlacedItems) (mid : S) (d : IsDescending passes stored pattern old around inner mid) where
      pub descending_fits : length around ≤ deepest
      descending_fits = omega (arith, way_levels around d.levels inner.text.now d.start d.way)

      pub descending_levels : d.levels ≡ deepest - length around
      descending_levels = omega (arith, way_levels around d.levels inner.text.now d.start d.way)

      module _ (later : PlacedItems) (same : later.text ≡ inner.text) (placed : PlacedItem)
          (stands : IsPieceAt stored inner.text.now d.before placed.range.start placed.range.end (item_view placed.item)) (read : HasRead stored (d.before ++ item_view placed.item ∷ []) later) where
        pub descending_goes_on : (new : S) → passes mid (events (inside (items_of stored) d.levels) (item_view placed.item ∷ [])) new → IsDescending passes stored pattern old around later new
        descending_goes_on new one = record {
          levels = d.levels;
          start = d.start;
          way = subst (λ text. way_to around d.levels text.now d.start) (sym same) d.way;
          before = d.before ++ item_view placed.item ∷ [];
          read = read;
          passed = one_more d.levels d.before (item_view placed.item) d.start mid new d.passed one;
        }

        pub descending_stops : (new : S) → StopsInItem passes stops stored d.levels (item_view placed.item) mid new
            → IsStoppedAt passes stops stored deepest pattern (path_of around) later.text.now placed.range.start placed.range.end (item_view placed.item) old new
        descending_stops new s =
            let front = events_at d.levels d.before in
            subst (λ text. IsStoppedAt passes stops stored deepest pattern (path_of around) text.now placed.range.start placed.range.end (item_view placed.item) old new) (sym same)
            (subst (λ names. IsStoppedAt passes stops stored deepest pattern names inner.text.now placed.range.start placed.range.end (item_view placed.item) old new) (append-nil (path_of around))
            (way_leads around d.levels inner.text.now d.start d.way [] inner.text.now placed.range.start placed.range.end (item_view placed.item) new (record {
              before = front ++ s.own;
              event = s.event;
              stands = Here d.levels inner.text.now d.before placed.range.start placed.range.end (item_view placed.item) s.own s.event stands s.is_own;
              passed = joins d.start mid new front s.own d.passed s.passed;
              stopped = s.stopped;
            })))

        pub descending_enters : (new : S) (opened : Opened) (meaning : Meaning) (deeper : List Opened) (within : PlacedItems) → EntersItem passes d.levels (item_view placed.item) opened.name.now meaning mid new
            → opened.placed ≡ placed → opened.items ≡ later → deeper ≡ around ++ opened ∷ [] → within.text.now ≡ meaning_text meaning → HasRead stored [] within → passes new [] new
            → IsDescending passes stored pattern old deeper within new
        descending_enters new opened meaning deeper within e placed_is items_is deeper_is text_is begun nothing =
            let front = events_at d.levels d.before in
            let item_is : item_view placed.item ≡ PlaceholderItem e.label meaning = e.is in
            let open_passed = joins d.start mid new front (Open e.label meaning ∷ []) d.passed e.passed in
            let texts : opened.items.text ≡ inner.text = ap (λ (items : PlacedItems). items.text) items_is ∙ same in
            let o : IsOpened passes stored opened e.below d.start new d.before e.label meaning = record {
              stands = rw (texts, placed_is) (subst (IsPieceAt stored inner.text.now d.before placed.range.start placed.range.end) item_is stands);
              is = ap (λ (placed : PlacedItem). item_view placed.item) placed_is ∙ item_is;
              named = e.named;
              read = rw items_is (subst (λ item. HasRead stored (d.before ++ item ∷ []) later) item_is read);
              passed = subst (λ n. passes d.start (events (inside (items_of stored) n) d.before ++ Open e.label meaning ∷ []) new) e.room open_passed;
            } in
            let way : way_to around (suc e.below) opened.items.text.now d.start = subst (λ text. way_to around (suc e.below) text.now d.start) (sym texts) (subst (λ n. way_to around n inner.text.now d.start) e.room d.way) in
            record {
              levels = e.below;
              start = new;
              way = subst (λ text. way_to deeper e.below text new) (sym text_is) (Within around deeper opened e.below d.start new d.before e.label meaning deeper_is way o);
              before = [];
              read = begun;
              passed = nothing;
            }

      module _ (over : items_of stored inner.text.now ≡ d.before) where
        whole_passed : passes d.start (events (inside (items_of stored) d.levels) (items_of stored inner.text.now)) mid
        whole_passed = subst (λ items. passes d.start (events_at d.levels items) mid) (sym over) d.passed

        pub descending_ends : around ≡ [] → passes old (tree stored pattern) mid
        descending_ends none = ends_by mid around d.levels inner.text.now d.start d.way none whole_passed

        module _ (outside : List Opened) (outer : Opened) (is : around ≡ outside ++ outer ∷ []) where
          closing : Closes mid outside outer
          closing = closes_by mid around d.levels inner.text.now d.start d.way whole_passed outside outer is

          -- all events of the placeholder but its close
          abbrev own : List Event
          own = Open closing.label closing.meaning ∷ events_at closing.levels (items_of stored (meaning_text closing.meaning))

          abbrev front : List Event
          front = events_at (suc closing.levels) closing.before

          own_passed : passes closing.start (front ++ own) mid
          own_passed =
              subst (λ es. passes closing.start es mid) (append_assoc front (Open closing.label closing.meaning ∷ []) (events_at closing.levels (items_of stored (meaning_text closing.meaning))))
              (joins closing.start closing.within mid (front ++ Open closing.label closing.meaning ∷ []) (events_at closing.levels (items_of stored (meaning_text closing.meaning))) closing.opened.passed closing.passed)

          pub closes_on : (new : S) → passes mid (Close ∷ []) new → IsDescending passes stored pattern old outside outer.items new
          closes_on new close =
              let whole : front ++ (own ++ Close ∷ []) ≡ events_at (suc closing.levels) (closing.before ++ PlaceholderItem closing.label closing.meaning ∷ []) =
              ap (λ es. front ++ es) (ap (λ es. Open closing.label closing.meaning ∷ es) (sym (append-nil (events_at closing.levels (items_of stored (meaning_text closing.meaning)) ++ Close ∷ []))))
              ∙ sym (events-append (inside (items_of stored) (suc closing.levels)) closing.before (PlaceholderItem closing.label closing.meaning ∷ [])) in
              record {
                levels = suc closing.levels;
                start = closing.start;
                way = closing.way;
                before = closing.before ++ PlaceholderItem closing.label closing.meaning ∷ [];
                read = closing.opened.read;
                passed = subst (λ es. passes closing.start es new) (append_assoc front own (Close ∷ []) ∙ whole) (joins closing.start mid new (front ++ own) (Close ∷ []) own_passed close);
              }

          pub closes_here : (new : S) → stops mid Close × (new ≡ mid)
              → IsStoppedAt passes stops stored deepest pattern (path_of outside) outer.items.text.now outer.placed.range.start outer.placed.range.end (item_view outer.placed.item) old new
          closes_here new (stopped, same) =
              let item = PlaceholderItem closing.label closing.meaning in
              let text = outer.items.text.now in
              subst (λ item. IsStoppedAt passes stops stored deepest pattern (path_of outside) text outer.placed.range.start outer.placed.range.end item old new) (sym closing.opened.is)
              (subst (λ names. IsStoppedAt passes stops stored deepest pattern names text outer.placed.range.start outer.placed.range.end item old new) (append-nil (path_of outside))
              (way_leads outside (suc closing.levels) text closing.start closing.way [] text outer.placed.range.start outer.placed.range.end item new (record {
                before = front ++ own;
                event = Close;
                stands = Here (suc closing.levels) text closing.before outer.placed.range.start outer.placed.range.end item own Close closing.opened.stands (Closing closing.levels closing.label closing.meaning);
                passed = subst (passes closing.start (front ++ own)) (sym same) own_passed;
                stopped = subst (λ s. stops s Close) (sym same) stopped;
              })))

-- ---- the search can go on

module _ {S : Type 0} (ready : Needing S) (passed : Passing S) (stored : Definitions) where
  abbrev at_levels : ℕ → List Item → List Event
  at_levels levels items = events (inside (items_of stored) levels) items

  -- the items of a text before an item are passed over
  ready_item : (levels : ℕ) (text : List ℕ) (before : List Item) (from to : ℕ) (item : Item) (start mid : S) → IsPieceAt stored text before from to item
      → IsReadyFor ready start (events (inside (items_of stored) levels) (items_of stored text)) → StaysReady ready start (events (inside (items_of stored) levels) before) mid
      → IsReadyFor ready mid (events (inside (items_of stored) levels) (item ∷ []))
  ready_item levels text before from to item start mid stands r stays =
      let inner = inside (items_of stored) levels in
      let front = events inner before in
      let whole : events inner (items_of stored text) ≡ front ++ (events inner (item ∷ []) ++ events inner stands.after) =
      ap (events inner) stands.items ∙ events-append inner before (item ∷ stands.after) ∙ ap (λ es. front ++ es) (events-append inner (item ∷ []) stands.after) in
      ready_first ready mid (events inner (item ∷ [])) (events inner stands.after) (ready_then ready start mid front (events inner (item ∷ []) ++ events inner stands.after) (subst (IsReadyFor ready start) whole r) stays)

  -- the definition of a placeholder is entered
  ready_within : (opened : Opened) (levels : ℕ) (start within : S) (before : List Item) (label : Label) (meaning : Meaning) → IsOpened (Passes ready passed) stored opened levels start within before label meaning
      → IsReadyFor ready start (events (inside (items_of stored) (suc levels)) (items_of stored opened.items.text.now))
      → IsReadyFor ready within (events (inside (items_of stored) levels) (items_of stored (meaning_text meaning)) ++ Close ∷ [])
  ready_within opened levels start within before label meaning o r =
      let inner = inside (items_of stored) (suc levels) in
      let front = events inner before in
      let own = at_levels levels (items_of stored (meaning_text meaning)) ++ Close ∷ [] in
      let rest = events inner o.stands.after in
      let whole : events inner (items_of stored opened.items.text.now) ≡ (front ++ Open label meaning ∷ []) ++ (own ++ rest) =
      ap (events inner) o.stands.items ∙ events-append inner before (PlaceholderItem label meaning ∷ o.stands.after) ∙ sym (append_assoc front (Open label meaning ∷ []) (own ++ rest)) in
      ready_first ready within own rest (ready_then ready start within (front ++ Open label meaning ∷ []) (own ++ rest) (subst (IsReadyFor ready start) whole r) o.passed.1)

  module _ (pattern : List ℕ) (old : S) (begins : ready old (tree stored pattern)) where
    ready_way : (around : List Opened) (levels : ℕ) (text : List ℕ) (start : S) → IsWayTo (Passes ready passed) stored pattern old around levels text start
        → IsReadyFor ready start (events (inside (items_of stored) levels) (items_of stored text))
    unfolding tree
    ready_way around levels text start Outermost = ready_whole ready old (at_levels deepest (items_of stored pattern)) begins
    ready_way around levels text start (Within outside _ opened _ before _ items label meaning is way o) =
        ready_first ready start (at_levels levels (items_of stored (meaning_text meaning))) (Close ∷ []) (ready_within opened levels before start items label meaning o (ready_way outside (suc levels) opened.items.text.now before way))

    module _ (around : List Opened) (inner : PlacedItems) (mid : S) (d : IsDescending (Passes ready passed) stored pattern old around inner mid) where
      pub descending_ready : (from to : ℕ) (item : Item) → IsPieceAt stored inner.text.now d.before from to item → IsReadyFor ready mid (events (inside (items_of stored) d.levels) (item ∷ []))
      descending_ready from to item stands = ready_item d.levels inner.text.now d.before from to item d.start mid stands (ready_way around d.levels inner.text.now d.start d.way) d.passed.1

      pub closes_ready : (sought : Seeking S) → items_of stored inner.text.now ≡ d.before → (outside : List Opened) (outer : Opened) → around ≡ outside ++ outer ∷ [] → IsReadyFor ready mid (Close ∷ [])
      closes_ready sought over outside outer is =
          let k = closing (Passes ready passed) (StopsAt passed sought) stored (passes_both ready passed) pattern old around inner mid d over outside outer is in
          ready_then ready k.within mid (at_levels k.levels (items_of stored (meaning_text k.meaning))) (Close ∷ [])
          (ready_within outer k.levels k.start k.within k.before k.label k.meaning k.opened (ready_way outside (suc k.levels) outer.items.text.now k.start k.way)) k.passed.1

-- ---- the place in the tree

module _ {S : Type 0} (ready : Needing S) (passed : Passing S) (sought : Seeking S) (stored : Definitions) (pattern : List ℕ) (old new : S) (begins : passed old [] old) where
  pub all_passed : Passes ready passed old (tree stored pattern) new → passed old (tree stored pattern) new
  all_passed more = more.0 old [] begins

  pub found_at : (around : List Opened) (text : List ℕ) (placed : PlacedItem) (place : Place)
      → IsStoppedAt (Passes ready passed) (StopsAt passed sought) stored deepest pattern (path_of around) text placed.range.start placed.range.end (item_view placed.item) old new
      → path_view place.location.path.items ≡ path_of around → place.location.text.now ≡ text → (place.location.range ≡ placed.range) × (place.item ≡ placed.item)
      → IsFoundAt passed sought stored pattern place old new
  unfolding tree
  found_at around text placed place u path_is text_is (range_is, item_is) =
      let (after, cut) = event_follows stored deepest pattern (path_of around) text placed.range.start placed.range.end (item_view placed.item) u.before u.event u.stands in
      let all : passed old u.before new = u.passed.0 old [] begins in
      record {
        before = u.before;
        event = u.event;
        after = after;
        cut = cut;
        passed = all;
        sought = u.stopped old u.before all;
        stands = rw (path_is, text_is, range_is, item_is) u.stands;
      }

-- ---- the end of the search

-- the remaining items of the texts around
abbrev pub lefts_in : List Opened → List (List Item)
lefts_in = map (λ (opened : Opened). left_in opened.items)

-- the remaining events of the tree
abbrev pub left_of : Definitions → List Opened → List Item → List Event
left_of stored around items = events_left (items_of stored) deepest (lefts_in around) items

module _ (stored : Definitions) where
  pub step_fewer : (around : List Opened) (items : List Item) (item : Item) (rest : List Item) → items ≡ item ∷ rest → length (left_of stored around rest) < length (left_of stored around items)
  step_fewer around items item rest cut =
      let texts = lefts_in around in
      let inner = inside (items_of stored) (deepest - length texts) in
      let item_then_rest : left_of stored around items ≡ events inner (item ∷ []) ++ left_of stored around rest = ap (left_of stored around) cut ∙ left_item (items_of stored) deepest texts item rest in
      omega (arith, ap length item_then_rest, length-append (events inner (item ∷ [])) (left_of stored around rest), some_event inner item)

  pub close_fewer : (around : List Opened) (items : List Item) (outside : List Opened) (outer : Opened) → items ≡ [] → around ≡ outside ++ outer ∷ []
      → length (left_of stored outside (left_in outer.items)) < length (left_of stored around items)
  close_fewer around items outside outer over is =
      let closes : left_of stored around items ≡ Close ∷ left_of stored outside (left_in outer.items) =
      ap (left_of stored around) over ∙ ap (λ texts. events_left (items_of stored) deepest texts []) (ap lefts_in is ∙ map-append (λ (opened : Opened). left_in opened.items) outside (outer ∷ [])) ∙ left_close (items_of stored) deepest (lefts_in outside) (left_in outer.items) in
      omega (arith, ap length closes)

  pub enter_fewer : (around : List Opened) (items : List Item) (item : Item) (rest : List Item) (label : Label) (meaning : Meaning) (deeper : List Opened) (opened : Opened) (within : List Item) → items ≡ item ∷ rest → item ≡ PlaceholderItem label meaning
      → length around < deepest → deeper ≡ around ++ opened ∷ [] → left_in opened.items ≡ rest → within ≡ items_of stored (meaning_text meaning)
      → length (left_of stored deeper within) < length (left_of stored around items)
  enter_fewer around items item rest label meaning deeper opened within cut is room deeper_is rest_is within_is =
      let texts = lefts_in around in
      let low : length texts < deepest = omega (arith, room, length-map around (λ (opened : Opened). left_in opened.items)) in
      let below : texts ++ rest ∷ [] ≡ lefts_in deeper = sym (ap lefts_in deeper_is ∙ map-append (λ (opened : Opened). left_in opened.items) around (opened ∷ []) ∙ ap (λ items. texts ++ items ∷ []) rest_is) in
      let enters : left_of stored around items ≡ Open label meaning ∷ left_of stored deeper within =
      ap (left_of stored around) (cut ∙ ap (λ i. i ∷ rest) is)
      ∙ left_enter (items_of stored) deepest texts label meaning rest low
      ∙ ap (λ es. Open label meaning ∷ es) (ap (λ texts. events_left (items_of stored) deepest texts (items_of stored (meaning_text meaning))) below ∙ ap (left_of stored deeper) (sym within_is)) in
      omega (arith, ap length enters)
