use Rattle.std.proofs.Common.{◌≡◌, ◌-◌, ◌<◌, length, [], ◌∷◌, ◌++◌, refl, sym, ◌∙◌, ap, subst, arith, length-append}
use Rattle.std.proofs.lemmas.List.{nil_from_length}
use Rattle.grok.specs.Tree.{deepest, reached}
use Rattle.grok.specs.Items.{item_view}
use Rattle.grok.specs.steps.Rows.{AreBelow}
use Rattle.grok.specs.steps.KnownParts.{resolve, used_keys, AreKnown}
use Rattle.grok.specs.steps.RowReading.{StepsAtItem, EntersPlaceholder}
use Rattle.grok.proofs.Keys.RowsAreRead.{left_of, IsReading, reading_starts, reading_ends, reading_closes, close_smaller, item_sound, reading_passes, pass_smaller, reading_stops, stop_below, reading_enters, enter_smaller, enter_room, all_below, whole_tree}
use Rattle.grok.proofs.expand.read_rows.read_rows.Goals as goal
use Rattle.grok.proofs.expand.read_rows.read_rows.Goals.{In_ok-read_item-in-Some, In_ok-push-in-Enter}

-- ---- what the goals at an item share

-- the item and those after it
cut_at : (c : In_ok-read_item-in-Some) → c.items.items ≡ item_view c.in-Some.item ∷ c.next.new.self
cut_at c = rw c.in-Some.is at c.in_ok-item.ensures

stepped : (c : In_ok-read_item-in-Some) (known : AreKnown c.args.settings c.args.parts.now)
    → StepsAtItem c.args.settings known.done (deepest - length c.items.around.items) (item_view c.in-Some.item) c.items.rows.items c.read_item.new.rows.items c.in_ok-read_item-in-Some.field-0
stepped c known =
    let settings = c.args.settings in
    let all = left_of settings [] (resolve settings c.args.pattern.now) in
    let item = item_view c.in-Some.item in
    let room : deepest - c.len.result ≡ deepest - length c.items.around.items = ap (λ n. deepest - n) (c.len.ensures ∙ c.items.around.ok.0) in
    subst (λ n. StepsAtItem settings known.done n item c.items.rows.items c.read_item.new.rows.items c.in_ok-read_item-in-Some.field-0) room
    (c.in_ok-read_item-in-Some.ensures (item_sound settings known.done all c.items.around.items c.items.items c.items.rows.items (c.items.invariant.reading known) item c.next.new.self (cut_at c)) known)

-- ---- the goals

pub items-init : goal.items-init
items-init c =
    let settings = c.args.settings in
    let text = c.args.pattern.now in
    record {
      room = let none = ap length c.new-around.ensures.items in omega (arith, none);
      reading = λ known. reading_starts settings known.done (left_of settings [] (resolve settings text)) text c.new-around.result.items c.of_items-items.result c.new-rows.result.items
          c.new-around.ensures.items (c.of_items-items.ensures ∙ c.of_text.ensures) refl c.new-rows.ensures.items;
    }

pub items-preserved-in-Skip : goal.items-preserved-in-Skip
items-preserved-in-Skip c =
    let settings = c.args.settings in
    let all = left_of settings [] (resolve settings c.args.pattern.now) in
    let around = c.items.around.items in
    let item = item_view c.in-Some.item in
    let step = (goal.at.items-preserved-in-Skip c).In_ok-read_item-in-Some in
    record {
      room = c.items.invariant.room;
      reading = λ known. reading_passes settings known.done all around c.items.items c.items.rows.items (c.items.invariant.reading known) item c.next.new.self (cut_at step) c.read_item.new.rows.items
          (subst (StepsAtItem settings known.done (deepest - length around) item c.items.rows.items c.read_item.new.rows.items) c.in-Skip.is (stepped step known));
    }

pub items-smaller-in-Skip : goal.items-smaller-in-Skip
items-smaller-in-Skip c =
    let settings = c.args.settings in
    let all = left_of settings [] (resolve settings c.args.pattern.now) in
    pass_smaller settings c.requires.done all c.items.around.items c.items.items c.items.rows.items (c.items.invariant.reading c.requires) (item_view c.in-Some.item) c.next.new.self
    (cut_at (goal.at.items-smaller-in-Skip c).In_ok-read_item-in-Some)

-- the definition of the item is entered
entered : (c : In_ok-push-in-Enter) (known : AreKnown c.args.settings c.args.parts.now)
    → EntersPlaceholder c.args.settings known.done (deepest - length c.items.around.items) (item_view c.in-Some.item) c.in-Enter.inner c.items.rows.items c.read_item.new.rows.items
entered c known =
    subst (StepsAtItem c.args.settings known.done (deepest - length c.items.around.items) (item_view c.in-Some.item) c.items.rows.items c.read_item.new.rows.items) c.in-Enter.is
    (stepped (goal.at.items-preserved-in-Continue-branch-5 c).In_ok-read_item-in-Some known)

-- the items after it are put on the stack
put : (c : In_ok-push-in-Enter) → c.push.new.self.items ≡ c.items.around.items ++ c.next.new.self ∷ []
put c = c.in_ok-push-in-Enter.ensures.items ∙ ap (λ items. c.items.around.items ++ items ∷ []) c.replace.ensures.value

pub items-preserved-in-Continue-branch-5 : goal.items-preserved-in-Continue-branch-5
items-preserved-in-Continue-branch-5 c =
    let settings = c.args.settings in
    let all = left_of settings [] (resolve settings c.args.pattern.now) in
    let around = c.items.around.items in
    let item = item_view c.in-Some.item in
    let later = c.read_item.new.rows.items in
    let deeper = c.push.new.self.items in
    let cut = cut_at (goal.at.items-preserved-in-Continue-branch-5 c).In_ok-read_item-in-Some in
    record {
      room = enter_room settings c.requires.done all around c.items.items c.items.rows.items (c.items.invariant.reading c.requires) item c.next.new.self cut c.in-Enter.inner later (entered c c.requires) deeper (put c);
      reading = λ known. subst (λ items. IsReading settings known.done all deeper items later) (sym c.replace.ensures.after)
          (reading_enters settings known.done all around c.items.items c.items.rows.items (c.items.invariant.reading known) item c.next.new.self cut c.in-Enter.inner later (entered c known) deeper (put c));
    }

pub items-smaller-in-Continue-branch-5 : goal.items-smaller-in-Continue-branch-5
items-smaller-in-Continue-branch-5 c =
    let settings = c.args.settings in
    let all = left_of settings [] (resolve settings c.args.pattern.now) in
    let around = c.items.around.items in
    let deeper = c.push.new.self.items in
    subst (λ items. length (left_of settings deeper items) < length (left_of settings around c.items.items)) (sym c.replace.ensures.after)
    (enter_smaller settings c.requires.done all around c.items.items c.items.rows.items (c.items.invariant.reading c.requires) (item_view c.in-Some.item) c.next.new.self
    (cut_at (goal.at.items-smaller-in-Continue-branch-5 c).In_ok-read_item-in-Some) c.in-Enter.inner c.read_item.new.rows.items (entered c c.requires) deeper (put c))

pub returns-in-Stop-clause-keys : goal.returns-in-Stop-clause-keys
returns-in-Stop-clause-keys c known =
    let settings = c.args.settings in
    let all = left_of settings [] (resolve settings c.args.pattern.now) in
    let around = c.items.around.items in
    let item = item_view c.in-Some.item in
    let step = (goal.at.returns-in-Stop-clause-keys c).In_ok-read_item-in-Some in
    reading_stops settings known.done all around c.items.items c.items.rows.items (c.items.invariant.reading known) item c.next.new.self (cut_at step) c.read_item.new.rows.items
    (subst (StepsAtItem settings known.done (deepest - length around) item c.items.rows.items c.read_item.new.rows.items) c.in-Stop.is (stepped step known))
    ∙ ap (λ es. used_keys settings (reached es)) (whole_tree settings c.args.pattern.now)

pub returns-in-Stop-clause-below : goal.returns-in-Stop-clause-below
returns-in-Stop-clause-below c =
    let settings = c.args.settings in
    let known : AreKnown settings c.args.parts.now = c.requires in
    let all = left_of settings [] (resolve settings c.args.pattern.now) in
    let around = c.items.around.items in
    let item = item_view c.in-Some.item in
    let step = (goal.at.returns-in-Stop-clause-below c).In_ok-read_item-in-Some in
    subst (λ bound. AreBelow bound c.read_item.new.rows.items) (sym known.are_keys.same)
    (stop_below settings known.done all around c.items.items c.items.rows.items (c.items.invariant.reading known) item c.next.new.self (cut_at step) c.read_item.new.rows.items
    (subst (StepsAtItem settings known.done (deepest - length around) item c.items.rows.items c.read_item.new.rows.items) c.in-Stop.is (stepped step known)))

pub items-preserved : goal.items-preserved
items-preserved c =
    let settings = c.args.settings in
    let all = left_of settings [] (resolve settings c.args.pattern.now) in
    let over = rw c.in-None.is at c.in_ok-item.ensures in
    let long = ap length c.in-Some-pop.ensures.items in
    record {
      room = omega (arith, long, length-append c.pop.new.self.items (c.in-Some-pop.outer ∷ []), c.items.invariant.room);
      reading = λ known. reading_closes settings known.done all c.items.around.items c.items.items c.items.rows.items (c.items.invariant.reading known) c.in-Some-pop.outer c.pop.new.self.items over.0 c.in-Some-pop.ensures.items;
    }

pub items-smaller : goal.items-smaller
items-smaller c =
    let settings = c.args.settings in
    let all = left_of settings [] (resolve settings c.args.pattern.now) in
    let over = rw c.in-None.is at c.in_ok-item.ensures in
    close_smaller settings c.requires.done all c.items.around.items c.items.items c.items.rows.items (c.items.invariant.reading c.requires) c.in-Some-pop.outer c.pop.new.self.items over.0 c.in-Some-pop.ensures.items

pub returns-in-None-pop-clause-keys : goal.returns-in-None-pop-clause-keys
returns-in-None-pop-clause-keys c known =
    let settings = c.args.settings in
    let all = left_of settings [] (resolve settings c.args.pattern.now) in
    let over = rw c.in-None.is at c.in_ok-item.ensures in
    reading_ends settings known.done all c.items.around.items c.items.items c.items.rows.items (c.items.invariant.reading known) over.0
    (nil_from_length c.items.around.items (omega (arith, c.items.around.ok.0, c.in-None-pop.ensures.cases.0)))
    ∙ ap (λ es. used_keys settings (reached es)) (whole_tree settings c.args.pattern.now)

pub returns-in-None-pop-clause-below : goal.returns-in-None-pop-clause-below
returns-in-None-pop-clause-below c =
    let settings = c.args.settings in
    let known : AreKnown settings c.args.parts.now = c.requires in
    let all = left_of settings [] (resolve settings c.args.pattern.now) in
    subst (λ bound. AreBelow bound c.items.rows.items) (sym known.are_keys.same)
    (all_below settings known.done all c.items.around.items c.items.items c.items.rows.items (c.items.invariant.reading known))
