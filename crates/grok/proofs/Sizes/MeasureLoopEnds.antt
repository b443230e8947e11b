-- The loop over frames ends: each step takes a piece, a definition that wasn't measured yet, or a frame.
use Rattle.std.proofs.Common.{◌≡◌, ℕ, suc, ◌+◌, ◌-◌, ◌<◌, ◌≤◌, Bool, true, false, cond, List, [], ◌∷◌, ◌++◌, length, Some, refl, sym, ◌∙◌, ap, subst, arith}
use Rattle.std.proofs.lemmas.Slice.Eq.{bytes_eq-Decides}
use Rattle.std.specs.Prelude.{not}
use Rattle.std.specs.Str.{bytes_eq}
use Rattle.grok.specs.declared.measure.cache.MeasureCache.{MeasureCache}
use Rattle.grok.specs.declared.measure.cache.Progress.{Progress}
use Rattle.grok.specs.declared.measure.cache.Progress.TheVariants.{InProgress}
use Rattle.grok.specs.declared.measure.measurer.Frame.{Frame}
use Rattle.grok.specs.Tree.{Definitions, Label, Stored, Item, PlaceholderItem}
use Rattle.grok.specs.Measured.{weighed}
use Rattle.grok.specs.steps.MeasureCache.{progress_of, is_kept, HasProgress, AreLow}
use Rattle.grok.proofs.Sizes.TextsWithoutPlaceholders.{AreSound}
use Rattle.grok.proofs.Sizes.CountersAreExact.{IsTable, weighed_le, weighed_more}

-- ---- the frames

-- The height in each frame is at most the number of levels that are left there, and the waiting items are
-- sound.
abbrev pub AreFit : (List ℕ → List Item) → Definitions → ℕ → List Frame → Type 0
AreFit resolve definitions levels [] = Unit {0}
AreFit resolve definitions levels (frame ∷ frames) = (frame.sum.height ≤ levels) × AreSound resolve definitions frame.items × AreFit resolve definitions (levels - 1) frames

pub fit_push : (resolve : List ℕ → List Item) (definitions : Definitions) (levels : ℕ) (frames : List Frame) (frame : Frame) → AreFit resolve definitions levels frames
    → frame.sum.height ≤ levels - length frames → AreSound resolve definitions frame.items → AreFit resolve definitions levels (frames ++ frame ∷ [])
fit_push resolve definitions levels [] frame fit low sound = (omega arith, sound, tt)
fit_push resolve definitions levels (f ∷ frames) frame fit low sound = (fit.0, fit.1, fit_push resolve definitions (levels - 1) frames frame fit.2 (omega arith) sound)

pub record FitPopped (resolve : List ℕ → List Item) (definitions : Definitions) (levels : ℕ) (frames : List Frame) (frame : Frame) : Type 0 where
  pub fit : AreFit resolve definitions levels frames
  pub low : frame.sum.height ≤ levels - length frames
  pub sound : AreSound resolve definitions frame.items

pub fit_pop : (resolve : List ℕ → List Item) (definitions : Definitions) (levels : ℕ) (frames : List Frame) (frame : Frame) → AreFit resolve definitions levels (frames ++ frame ∷ []) → FitPopped resolve definitions levels frames frame
fit_pop resolve definitions levels [] frame (low, sound, none) = record { fit = tt; low = omega arith; sound = sound }
fit_pop resolve definitions levels (f ∷ frames) frame (low, sound, fit) =
    let p = fit_pop resolve definitions (levels - 1) frames frame fit in
    record { fit = (low, sound, p.fit); low = omega (arith, p.low); sound = p.sound }

-- so the heights in the frames are at most these levels
pub fit_low : (resolve : List ℕ → List Item) (definitions : Definitions) (levels most : ℕ) (frames : List Frame) → levels ≤ most → AreFit resolve definitions levels frames → AreLow most frames
fit_low resolve definitions levels most [] le fit = tt
fit_low resolve definitions levels most (f ∷ frames) le fit =
    let low = fit.0 in
    (omega arith, fit_low resolve definitions (levels - 1) most frames (omega arith) fit.2)

pub low_pop : (most : ℕ) (frames : List Frame) (frame : Frame) → AreLow most (frames ++ frame ∷ []) → AreLow most frames × (frame.sum.height ≤ most)
low_pop most [] frame low = (tt, low.0)
low_pop most (f ∷ frames) frame low = let rest = low_pop most frames frame low.1 in ((low.0, rest.0), rest.1)

-- ---- the measure

-- the name's definition may still be read
abbrev pub is_unkept : MeasureCache → List ℕ → Bool
is_unkept cache name = not (is_kept (progress_of cache.by_name name))

-- the waiting items in the frames, and for each frame an end
abbrev pub waiting : List Frame → ℕ
waiting [] = 0
waiting (frame ∷ frames) = suc (length frame.items) + waiting frames

waiting-append : (frames : List Frame) (frame : Frame) → waiting (frames ++ frame ∷ []) ≡ waiting frames + suc (length frame.items)
waiting-append [] frame = omega arith
waiting-append (f ∷ frames) frame = omega (arith, waiting-append frames frame)

module _ (resolve : List ℕ → List Item) (definitions : Definitions) (entries : List (List ℕ × List ℕ)) where
  -- how many pieces are left to read: in definitions that were not used yet, in this text, and in those around it
  abbrev pub work_left : MeasureCache → List Item → List Frame → ℕ
  work_left cache items frames = weighed (λ text. suc (length (resolve text))) (is_unkept cache) entries + (suc (length items) + waiting frames)

  pub less_opened : IsTable definitions entries → (before after : MeasureCache) (item : Item) (left : List Item) (frames : List Frame) (frame : Frame) (label : Label) (text : List ℕ) → item ≡ PlaceholderItem label (Stored text) → AreSound resolve definitions (item ∷ left)
      → is_kept (progress_of before.by_name label.name) ≡ false → HasProgress label.name InProgress before after → frame.items ≡ left
      → work_left after (resolve text) (frames ++ frame ∷ []) < work_left before (item ∷ left) frames
  less_opened table before after item left frames frame label text is sound fresh updated waits =
      let stored : definitions label.name ≡ Some text = (subst (λ i. AreSound resolve definitions (i ∷ left)) is sound).0 in
      let fewer = weighed_more (λ t. suc (length (resolve t))) (is_unkept after) (is_unkept before) label.name text entries table.apart (table.same label.name ∙ stored)
      (rw (updated label.name, (bytes_eq-Decides label.name label.name).1 refl) refl) (rw fresh refl) (λ other apart. go other apart (bytes_eq label.name other) refl) in
      omega (arith, fewer, waiting-append frames frame, ap length waits)
    where
      go : (other : List ℕ) → (label.name ≡ other → ⊥) → (b : Bool) → bytes_eq label.name other ≡ b → is_unkept after other ≡ is_unkept before other
      go other apart true e = absurd (apart ((bytes_eq-Decides label.name other).0 e))
      go other apart false e = rw (updated other, e) refl

  pub less_ended : (before after : MeasureCache) (frames : List Frame) (frame : Frame) (name : List ℕ) (progress : Progress) → is_kept (Some progress) ≡ true → HasProgress name progress before after
      → work_left after frame.items frames < work_left before [] (frames ++ frame ∷ [])
  less_ended before after frames frame name progress kept updated =
      let fewer = weighed_le (λ t. suc (length (resolve t))) (is_unkept after) (is_unkept before) entries (λ other unmet. go other (bytes_eq name other) refl unmet) in
      omega (arith, fewer, waiting-append frames frame)
    where
      go : (other : List ℕ) (b : Bool) → bytes_eq name other ≡ b → is_unkept after other ≡ true → is_unkept before other ≡ true
      go other true e unmet = let gone : false ≡ true = sym (ap (λ o. not (is_kept o)) (updated other ∙ ap (λ b. cond b (Some progress) (progress_of before.by_name other)) e) ∙ ap not kept) ∙ unmet in cc
      go other false e unmet = sym (ap (λ o. not (is_kept o)) (updated other ∙ ap (λ b. cond b (Some progress) (progress_of before.by_name other)) e)) ∙ unmet
