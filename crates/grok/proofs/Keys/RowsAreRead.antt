-- Reading a pattern up to its first structural fault lists the base keys that are used before it, also where what is
-- known of a definition is skipped.
use Rattle.std.proofs.Common.{◌≡◌, ℕ, ◌+◌, ◌-◌, ◌<◌, ◌≤◌, List, [], ◌∷◌, ◌++◌, length, drop, Some, None, refl, sym, ◌∙◌, ap, subst, arith, append_assoc, append-nil, length-append}
use Rattle.std.specs.FinMap as finite
use Rattle.grok.specs.Tree.{Fault, TooDeep, Label, Meaning, meaning_text, Item, FaultItem, PlaceholderItem, Event, Text, Open, Close, FaultEvent, events, deepest, tree, first_structural, reached}
use Rattle.grok.specs.Items.{item_view}
use Rattle.grok.specs.steps.Rows.{part_keys, flat, AreBelow}
use Rattle.grok.specs.steps.KnownParts.{resolve, opened_events, used_keys, own_keys, AddKeys, HaveKeys, IsKnownText, IsSoundItem, IsCutAt, IsKnownPartOf}
use Rattle.grok.specs.steps.RowReading.{ArePassed, HaveFault, events_inside, EntersText, StepsAtText, EntersPlaceholder, StepsAtItem}
use Rattle.grok.specs.declared.defs.items.Item as code
use Rattle.grok.specs.declared.expand.rows.Row.{Row}
use Rattle.grok.specs.declared.expand.rows.Row.TheVariants.{Part}
use Rattle.grok.specs.declared.settings.Settings.{Settings}
use Rattle.grok.specs.declared.expand.known_parts.KnownPart.{KnownPart}
use Rattle.grok.specs.declared.expand.read_rows.ReadStep.{ReadStep}
use Rattle.grok.specs.declared.expand.read_rows.ReadStep.TheVariants.{Skip, Enter, Stop}
use Rattle.grok.proofs.Trees.EventsOnStack.{events_left, left_item, left_items, some_event, left_enter, left_close}
use Rattle.grok.proofs.Sizes.SizeIsThatOfTree.{or_else, first_structural-append}
use Rattle.grok.proofs.Sizes.TextsWithoutPlaceholders.{AreSound, sound_rest}
use Rattle.grok.proofs.Sizes.ItemsAreSound.{sound_texts}
use Rattle.grok.proofs.Keys.PartsAreKnown.{adds_none, adds_more, adds_part, used-append, used_by_open, sound_first, whole_text_known}

-- ---- what is reached

reached_all : (es : List Event) → first_structural es ≡ None → reached es ≡ es
reached_all [] clean = refl
reached_all (Text text ∷ es) clean = ap (λ es. Text text ∷ es) (reached_all es clean)
reached_all (Open label meaning ∷ es) clean = ap (λ es. Open label meaning ∷ es) (reached_all es clean)
reached_all (Close ∷ es) clean = ap (λ es. Close ∷ es) (reached_all es clean)
reached_all (FaultEvent fault ∷ es) clean = cc

reached_after : (xs ys : List Event) → first_structural xs ≡ None → reached (xs ++ ys) ≡ xs ++ reached ys
reached_after [] ys clean = refl
reached_after (Text text ∷ xs) ys clean = ap (λ es. Text text ∷ es) (reached_after xs ys clean)
reached_after (Open label meaning ∷ xs) ys clean = ap (λ es. Open label meaning ∷ es) (reached_after xs ys clean)
reached_after (Close ∷ xs) ys clean = ap (λ es. Close ∷ es) (reached_after xs ys clean)
reached_after (FaultEvent fault ∷ xs) ys clean = cc

reached_before : (xs ys : List Event) (fault : Fault) → first_structural xs ≡ Some fault → reached (xs ++ ys) ≡ reached xs
reached_before [] ys fault some = cc
reached_before (Text text ∷ xs) ys fault some = ap (λ es. Text text ∷ es) (reached_before xs ys fault some)
reached_before (Open label meaning ∷ xs) ys fault some = ap (λ es. Open label meaning ∷ es) (reached_before xs ys fault some)
reached_before (Close ∷ xs) ys fault some = ap (λ es. Close ∷ es) (reached_before xs ys fault some)
reached_before (FaultEvent f ∷ xs) ys fault some = refl

module _ (settings : Settings) (done : List (List (List ℕ))) where
  -- ---- one list of events after the other

  pub passed_none : (rows : List Row) → ArePassed settings done [] rows rows
  passed_none rows = record { clean = refl; adds = adds_none done rows }

  pub passed_close : (rows : List Row) → ArePassed settings done (Close ∷ []) rows rows
  passed_close rows = record { clean = refl; adds = adds_none done rows }

  pub passed-append : (xs ys : List Event) (old mid new : List Row) → ArePassed settings done xs old mid → ArePassed settings done ys mid new → ArePassed settings done (xs ++ ys) old new
  passed-append xs ys old mid new p q = record {
    clean = first_structural-append xs ys ∙ ap (λ o. or_else o (first_structural ys)) p.clean ∙ q.clean;
    adds = subst (AddKeys done old new) (sym (used-append settings xs ys)) (adds_more done old mid new (used_keys settings xs) (used_keys settings ys) p.adds q.adds);
  }

  pub fault_after : (xs ys : List Event) (old mid new : List Row) → ArePassed settings done xs old mid → HaveFault settings done ys mid new → HaveFault settings done (xs ++ ys) old new
  fault_after xs ys old mid new p q = record {
    fault = q.fault;
    is = first_structural-append xs ys ∙ ap (λ o. or_else o (first_structural ys)) p.clean ∙ q.is;
    adds = subst (AddKeys done old new) (sym (ap (used_keys settings) (reached_after xs ys p.clean) ∙ used-append settings xs (reached ys)))
        (adds_more done old mid new (used_keys settings xs) (used_keys settings (reached ys)) p.adds q.adds);
  }

  pub fault_before : (xs ys : List Event) (old new : List Row) → HaveFault settings done xs old new → HaveFault settings done (xs ++ ys) old new
  fault_before xs ys old new p = record {
    fault = p.fault;
    is = first_structural-append xs ys ∙ ap (λ o. or_else o (first_structural ys)) p.is;
    adds = subst (AddKeys done old new) (sym (ap (used_keys settings) (reached_before xs ys p.fault p.is))) p.adds;
  }

  -- ---- one open

  pub open_passed : (label : Label) (meaning : Meaning) (old new : List Row) → AddKeys done old new (own_keys settings label) → ArePassed settings done (Open label meaning ∷ []) old new
  open_passed label meaning old new added = record { clean = refl; adds = subst (AddKeys done old new) (sym (used_by_open settings label meaning)) added }

  pub known_passed : (es : List Event) (keys : List (List ℕ)) (old new : List Row) → HaveKeys settings es keys → AddKeys done old new keys → ArePassed settings done es old new
  known_passed es keys old new k added = record { clean = k.clean; adds = subst (AddKeys done old new) (sym k.used) added }

  -- a placeholder is nested too deeply
  pub too_deep : (text : List ℕ) (levels : ℕ) (rows : List Row) → levels ≡ 0 → HaveFault settings done (opened_events settings levels text) rows rows
  too_deep text levels rows none =
      subst (λ n. HaveFault settings done (opened_events settings n text) rows rows) (sym none) (record { fault = TooDeep; is = refl; adds = adds_none done rows })

  -- an inline definition has no placeholder
  pub inline_passed : (text : List ℕ) (levels : ℕ) (rows : List Row) → 0 < levels → IsKnownText settings text 0 [] → ArePassed settings done (opened_events settings levels text) rows rows
  inline_passed text levels rows room k = known_passed (opened_events settings levels text) [] rows rows (k levels room) (adds_none done rows)

  module _ (text : List ℕ) (part : KnownPart) (f : IsKnownPartOf settings done text part) (levels : ℕ) (high : part.height < levels) (old new : List Row) (added : new ≡ old ++ Part part.index ∷ []) where
    part_added : AddKeys done old new (part_keys done part.index)
    part_added = adds_part done old new part.index added f.within

    pub passes_whole : part.stop ≡ None → ArePassed settings done (opened_events settings levels text) old new
    passes_whole whole = known_passed (opened_events settings levels text) (part_keys done part.index) old new (whole_text_known settings done text part f whole levels high) part_added

    pub enters_after_known : (item : code.Item) (items : List Item) → part.stop ≡ Some item → items ≡ item_view item ∷ drop part.read (resolve settings text) → EntersText settings done levels text items old new
    enters_after_known item items stops is = record {
      room = omega arith;
      skipped = f.items;
      cut = subst (λ o. IsCutAt settings text f.items o part.read) stops f.cut ∙ ap (λ left. f.items ++ left) (sym is);
      passed = known_passed (events_inside settings levels f.items) (part_keys done part.index) old new (f.are_known (levels - 1) (omega arith)) part_added;
    }

  -- ---- one item

  pub steps_at_placeholder : (levels : ℕ) (item : Item) (label : Label) (meaning : Meaning) (old mid new : List Row) (step : ReadStep) → item ≡ PlaceholderItem label meaning → AddKeys done old mid (own_keys settings label)
      → StepsAtText settings done levels (meaning_text meaning) mid new step → StepsAtItem settings done levels item old new step
  steps_at_placeholder levels item label meaning old mid new Skip is own step =
      let inner = opened_events settings levels (meaning_text meaning) in
      subst (λ i. ArePassed settings done (events (opened_events settings levels) (i ∷ [])) old new) (sym is)
      (subst (λ es. ArePassed settings done (Open label meaning ∷ es) old new) (sym (append-nil inner))
      (passed-append (Open label meaning ∷ []) inner old mid new (open_passed label meaning old mid own) step))
  steps_at_placeholder levels item label meaning old mid new (Enter items) is own step = record {
    label = label;
    meaning = meaning;
    is = is;
    room = step.room;
    skipped = step.skipped;
    cut = step.cut;
    passed = passed-append (Open label meaning ∷ []) (events_inside settings levels step.skipped) old mid new (open_passed label meaning old mid own) step.passed;
  }
  steps_at_placeholder levels item label meaning old mid new Stop is own step =
      let inner = opened_events settings levels (meaning_text meaning) in
      subst (λ i. HaveFault settings done (events (opened_events settings levels) (i ∷ [])) old new) (sym is)
      (subst (λ es. HaveFault settings done (Open label meaning ∷ es) old new) (sym (append-nil inner))
      (fault_after (Open label meaning ∷ []) inner old mid new (open_passed label meaning old mid own) step))

  pub fault_stops : (levels : ℕ) (item : Item) (fault : Fault) (rows : List Row) → item ≡ FaultItem fault → HaveFault settings done (events (opened_events settings levels) (item ∷ [])) rows rows
  fault_stops levels item fault rows is =
      subst (λ i. HaveFault settings done (events (opened_events settings levels) (i ∷ [])) rows rows) (sym is) (record { fault = fault; is = refl; adds = adds_none done rows })

-- ---- the whole pattern

-- the events that are left of open texts
abbrev pub left_of : Settings → List (List Item) → List Item → List Event
left_of settings around items = events_left (resolve settings) deepest around items

abbrev pub AreAllSound : Settings → List (List Item) → Type 0
AreAllSound settings [] = Unit {0}
AreAllSound settings (items ∷ around) = AreSound (resolve settings) (finite.get settings.grok.now) items × AreAllSound settings around

all_sound-push : (settings : Settings) (around : List (List Item)) (items : List Item) → AreAllSound settings around → AreSound (resolve settings) (finite.get settings.grok.now) items → AreAllSound settings (around ++ items ∷ [])
all_sound-push settings [] items sound own = (own, tt)
all_sound-push settings (outer ∷ around) items sound own = (sound.0, all_sound-push settings around items sound.1 own)

all_sound-pop : (settings : Settings) (around : List (List Item)) (items : List Item) → AreAllSound settings (around ++ items ∷ []) → AreSound (resolve settings) (finite.get settings.grok.now) items × AreAllSound settings around
all_sound-pop settings [] items sound = (sound.0, tt)
all_sound-pop settings (outer ∷ around) items sound = let more = all_sound-pop settings around items sound.1 in (more.0, (sound.0, more.1))

sound_after_front : (settings : Settings) (front rest : List Item) → AreSound (resolve settings) (finite.get settings.grok.now) (front ++ rest) → AreSound (resolve settings) (finite.get settings.grok.now) rest
sound_after_front settings [] rest sound = sound
sound_after_front settings (item ∷ front) rest sound = sound_after_front settings front rest (sound_rest (resolve settings) (finite.get settings.grok.now) item (front ++ rest) sound)

-- What is true while a pattern is read. In `around` are the items that remain of each open text, and in `items` those
-- of the innermost one. `all` has the events of the whole tree.
pub record IsReading (settings : Settings) (done : List (List (List ℕ))) (all : List Event) (around : List (List Item)) (items : List Item) (rows : List Row) : Type 0 where
  pub sound : AreSound (resolve settings) (finite.get settings.grok.now) items
  pub all_sound : AreAllSound settings around
  pub read : List Event
  pub cut : all ≡ read ++ left_of settings around items
  pub passed : ArePassed settings done read [] rows

module _ (settings : Settings) (done : List (List (List ℕ))) (all : List Event) where
  pub reading_starts : (text : List ℕ) (around : List (List Item)) (items : List Item) (rows : List Row) → around ≡ [] → items ≡ resolve settings text → all ≡ left_of settings [] (resolve settings text) → rows ≡ [] → IsReading settings done all around items rows
  reading_starts text around items rows none is whole no_rows = record {
    sound = subst (AreSound (resolve settings) (finite.get settings.grok.now)) (sym is) ((sound_texts (finite.get settings.grok.now)).sound text);
    all_sound = subst (AreAllSound settings) (sym none) tt;
    read = [];
    cut = whole ∙ ap (λ items. left_of settings [] items) (sym is) ∙ ap (λ around. left_of settings around items) (sym none);
    passed = subst (ArePassed settings done [] []) (sym no_rows) (passed_none settings done []);
  }

  module _ (around : List (List Item)) (items : List Item) (rows : List Row) (w : IsReading settings done all around items rows) where
    -- the events after those that were read
    more_read : (es left : List Event) (later : List Row) → left_of settings around items ≡ es ++ left → ArePassed settings done es rows later → (all ≡ (w.read ++ es) ++ left) × ArePassed settings done (w.read ++ es) [] later
    more_read es left later is passed =
        (w.cut ∙ ap (λ ls. w.read ++ ls) is ∙ sym (append_assoc w.read es left), passed-append settings done w.read es [] rows later w.passed passed)

    pub reading_ends : items ≡ [] → around ≡ [] → flat done rows ≡ used_keys settings (reached all)
    reading_ends over none =
        let whole : all ≡ w.read = w.cut ∙ ap (λ ls. w.read ++ ls) (ap (λ items. left_of settings around items) over ∙ ap (λ around. left_of settings around []) none) ∙ append-nil w.read in
        w.passed.adds.adds ∙ ap (used_keys settings) (sym (ap reached whole ∙ reached_all w.read w.passed.clean))

    module _ (outer : List Item) (outside : List (List Item)) (over : items ≡ []) (is : around ≡ outside ++ outer ∷ []) where
      close_then_outer : left_of settings around items ≡ Close ∷ left_of settings outside outer
      close_then_outer = ap (λ items. left_of settings around items) over ∙ ap (λ around. left_of settings around []) is ∙ left_close (resolve settings) deepest outside outer

      pub reading_closes : IsReading settings done all outside outer rows
      reading_closes =
          let sound = all_sound-pop settings outside outer (subst (AreAllSound settings) is w.all_sound) in
          let more = more_read (Close ∷ []) (left_of settings outside outer) rows close_then_outer (passed_close settings done rows) in
          record { sound = sound.0; all_sound = sound.1; read = w.read ++ Close ∷ []; cut = more.0; passed = more.1 }

      pub close_smaller : length (left_of settings outside outer) < length (left_of settings around items)
      close_smaller = omega (arith, ap length close_then_outer)

    module _ (item : Item) (rest : List Item) (cut : items ≡ item ∷ rest) where
      pub item_sound : IsSoundItem settings item
      item_sound = sound_first settings item rest (subst (AreSound (resolve settings) (finite.get settings.grok.now)) cut w.sound)

      rest_sound : AreSound (resolve settings) (finite.get settings.grok.now) rest
      rest_sound = sound_rest (resolve settings) (finite.get settings.grok.now) item rest (subst (AreSound (resolve settings) (finite.get settings.grok.now)) cut w.sound)

      abbrev its_events : List Event
      its_events = events (opened_events settings (deepest - length around)) (item ∷ [])

      item_then_rest : left_of settings around items ≡ its_events ++ left_of settings around rest
      item_then_rest = ap (λ items. left_of settings around items) cut ∙ left_item (resolve settings) deepest around item rest

      pub reading_passes : (later : List Row) → ArePassed settings done its_events rows later → IsReading settings done all around rest later
      reading_passes later passed =
          let more = more_read its_events (left_of settings around rest) later item_then_rest passed in
          record { sound = rest_sound; all_sound = w.all_sound; read = w.read ++ its_events; cut = more.0; passed = more.1 }

      pub pass_smaller : length (left_of settings around rest) < length (left_of settings around items)
      pass_smaller = omega (arith, ap length item_then_rest, length-append its_events (left_of settings around rest), some_event (opened_events settings (deepest - length around)) item)

      pub reading_stops : (later : List Row) → HaveFault settings done its_events rows later → flat done later ≡ used_keys settings (reached all)
      reading_stops later stops =
          let found = fault_after settings done w.read (its_events ++ left_of settings around rest) [] rows later w.passed (fault_before settings done its_events (left_of settings around rest) rows later stops) in
          found.adds.adds ∙ ap (λ es. used_keys settings (reached es)) (sym (w.cut ∙ ap (λ ls. w.read ++ ls) item_then_rest))

      pub stop_below : (later : List Row) → HaveFault settings done its_events rows later → AreBelow (length done) later
      stop_below later stops = stops.adds.below (w.passed.adds.below tt)

      module _ (inner : List Item) (later : List Row) (e : EntersPlaceholder settings done (deepest - length around) item inner rows later) (deeper : List (List Item)) (is : deeper ≡ around ++ rest ∷ []) where
        abbrev its_skipped : List Event
        its_skipped = Open e.label e.meaning ∷ events_inside settings (deepest - length around) e.skipped

        skipped_then_inner : left_of settings around items ≡ its_skipped ++ left_of settings deeper inner
        skipped_then_inner =
            let long : length (around ++ rest ∷ []) ≡ length around + 1 = length-append around (rest ∷ []) in
            let same : deepest - length (around ++ rest ∷ []) ≡ deepest - length around - 1 = omega (arith, long) in
            ap (λ items. left_of settings around items) (cut ∙ ap (λ i. i ∷ rest) e.is)
            ∙ left_enter (resolve settings) deepest around e.label e.meaning rest (omega (arith, e.room))
            ∙ ap (λ es. Open e.label e.meaning ∷ es) (ap (λ items. left_of settings (around ++ rest ∷ []) items) e.cut
            ∙ left_items (resolve settings) deepest (around ++ rest ∷ []) e.skipped inner
            ∙ ap (λ n. events (opened_events settings n) e.skipped ++ left_of settings (around ++ rest ∷ []) inner) same
            ∙ ap (λ around'. events_inside settings (deepest - length around) e.skipped ++ left_of settings around' inner) (sym is))

        pub reading_enters : IsReading settings done all deeper inner later
        reading_enters =
            let more = more_read its_skipped (left_of settings deeper inner) later skipped_then_inner e.passed in
            record {
              sound = sound_after_front settings e.skipped inner (subst (AreSound (resolve settings) (finite.get settings.grok.now)) e.cut ((sound_texts (finite.get settings.grok.now)).sound (meaning_text e.meaning)));
              all_sound = subst (AreAllSound settings) (sym is) (all_sound-push settings around rest w.all_sound rest_sound);
              read = w.read ++ its_skipped;
              cut = more.0;
              passed = more.1;
            }

        pub enter_smaller : length (left_of settings deeper inner) < length (left_of settings around items)
        enter_smaller = omega (arith, ap length skipped_then_inner, length-append its_skipped (left_of settings deeper inner))

        pub enter_room : length deeper ≤ deepest
        enter_room =
            let long : length deeper ≡ length around + 1 = ap length is ∙ length-append around (rest ∷ []) in
            omega (arith, e.room)

    pub all_below : AreBelow (length done) rows
    all_below = w.passed.adds.below tt

-- the events that are left at the start are those of the tree
pub whole_tree : (settings : Settings) (pattern : List ℕ) → left_of settings [] (resolve settings pattern) ≡ tree (finite.get settings.grok.now) pattern
unfolding tree
whole_tree settings pattern = refl
