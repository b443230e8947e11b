use Rattle.std.proofs.Common.{◌≡◌, ◌+◌, ◌∷◌, Some, refl, sym, subst, arith}
use Rattle.std.specs.FinMap as finite
use Rattle.grok.specs.Items.{item_view}
use Rattle.grok.specs.steps.KnownParts.{resolve, with_item, IsKnownOf}
use Rattle.grok.proofs.Sizes.TextsWithoutPlaceholders.{AreSound, sound_rest}
use Rattle.grok.proofs.Sizes.ItemsAreSound.{sound_texts}
use Rattle.grok.proofs.Keys.PartsAreKnown.{sound_first, reading_starts, reading_goes_on, reading_stops, reading_ends}
use Rattle.grok.proofs.expand.known_parts.KnownParts.read_text.Goals as goal

pub items-init : goal.items-init
items-init c =
    let settings = c.args.settings in
    record {
      sound = subst (AreSound (resolve settings) (finite.get settings.grok.now)) (sym c.of_stored-items.ensures) ((sound_texts (finite.get settings.grok.now)).sound c.args.stored.now);
      whole = refl;
      reading = λ parts. reading_starts settings parts.done c.args.stored.now c.of_stored-items.result c.new.result c.of_stored-items.ensures c.new.ensures.rows;
    }

pub items-preserved : goal.items-preserved
items-preserved c =
    let settings = c.args.settings in
    let item = item_view c.in-Some.item in
    let rest = c.next.new.self in
    let new = c.read_item.new.known in
    let cut : c.items.items ≡ item ∷ rest = rw c.in-Some.is at c.in_ok-item.ensures in
    let sound : AreSound (resolve settings) (finite.get settings.grok.now) (item ∷ rest) = subst (AreSound (resolve settings) (finite.get settings.grok.now)) cut c.items.invariant.sound in
    let one : c.in-Some-checked_add.read ≡ c.items.text.read + 1 = omega (arith, c.in-Some-checked_add.ensures) in
    record {
      sound = sound_rest (resolve settings) (finite.get settings.grok.now) item rest sound;
      whole = c.items.invariant.whole;
      reading = λ parts. reading_goes_on settings parts.done c.args.stored.now c.items.items rest item c.items.text.read c.in-Some-checked_add.read c.items.text.known new cut one
          (λ items h. subst (λ b. IsKnownOf settings parts.done (with_item b items item) new) c.if-not-branch.false (c.in_ok-read_item.ensures (sound_first settings item rest sound) parts items h))
          (c.items.invariant.reading parts);
    }

pub returns-then-not-branch : goal.returns-then-not-branch
returns-then-not-branch c parts =
    let settings = c.args.settings in
    let item = item_view c.in-Some.item in
    let rest = c.next.new.self in
    let new = c.read_item.new.known in
    let cut : c.items.items ≡ item ∷ rest = rw c.in-Some.is at c.in_ok-item.ensures in
    let sound : AreSound (resolve settings) (finite.get settings.grok.now) (item ∷ rest) = subst (AreSound (resolve settings) (finite.get settings.grok.now)) cut c.items.invariant.sound in
    let one : c.in-Some-checked_add.read ≡ c.items.text.read + 1 = omega (arith, c.in-Some-checked_add.ensures) in
    reading_stops settings parts.done c.args.stored.now c.items.items rest c.in-Some.item c.items.text.read c.items.text.known (record { known = new; stop = Some c.in-Some.item; read = c.in-Some-checked_add.read }) cut one refl
    (λ items h. subst (λ b. IsKnownOf settings parts.done (with_item b items item) new) c.if-not-branch.true (c.in_ok-read_item.ensures (sound_first settings item rest sound) parts items h))
    (c.items.invariant.reading parts)

pub returns : goal.returns
returns c parts =
    reading_ends c.args.settings parts.done c.args.stored.now c.items.items c.items.text (rw c.in_default.is at c.in_ok-item.ensures).0 c.items.invariant.whole (c.items.invariant.reading parts)
