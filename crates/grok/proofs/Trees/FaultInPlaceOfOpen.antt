-- If each placeholder that passes a test is replaced by a fault, the first fault shows whether the tree has
-- such a placeholder.
use Rattle.std.proofs.Common.{◌≡◌, ℕ, zero, suc, Bool, true, false, cond, List, [], ◌∷◌, ◌++◌, Option, Some, None, refl, sym, ◌∙◌, ap, subst}
use Rattle.std.specs.Prelude.{map}
use Rattle.grok.specs.Tree.{Definitions, Fault, Label, Meaning, Inline, Stored, meaning_text, Item, TextItem, FaultItem, PlaceholderItem, Event, Text, Open, Close, FaultEvent, events, inside, tree_within, first_structural}
use Rattle.grok.proofs.Sizes.TextsWithoutPlaceholders.{AreBytes, bytes_in, IsFlat, AreSound, IsSound}
use Rattle.grok.proofs.Sizes.SizeIsThatOfTree.{or_else, first_structural-append}

module _ (test : Label → Meaning → Bool) (marker : Fault) where
  abbrev pub blocked : Item → Item
  blocked (TextItem text) = TextItem text
  blocked (FaultItem fault) = FaultItem fault
  blocked (PlaceholderItem label meaning) = cond (test label meaning) (FaultItem marker) (PlaceholderItem label meaning)

  abbrev pub blocking : (List ℕ → List Item) → List ℕ → List Item
  blocking resolve text = map blocked (resolve text)

  -- ---- the tree

  -- the first fault, or this one if a placeholder that passes the test comes before it
  abbrev pub stop : List Event → Option Fault
  stop [] = None
  stop (Text text ∷ es) = stop es
  stop (Close ∷ es) = stop es
  stop (FaultEvent fault ∷ es) = Some fault
  stop (Open label meaning ∷ es) = cond (test label meaning) (Some marker) (stop es)

  stop-append : (xs ys : List Event) → stop (xs ++ ys) ≡ or_else (stop xs) (stop ys)
  stop-append [] ys = refl
  stop-append (Text text ∷ xs) ys = stop-append xs ys
  stop-append (Close ∷ xs) ys = stop-append xs ys
  stop-append (FaultEvent fault ∷ xs) ys = refl
  stop-append (Open label meaning ∷ xs) ys =
      let rest = stop-append xs ys in
      elim (test label meaning) as (λ b. cond b (Some marker) (stop (xs ++ ys)) ≡ or_else (cond b (Some marker) (stop xs)) (stop ys)) [ true ↦ refl | false ↦ rest ]

  items_stop : (f g : List ℕ → List Event) → ((t : List ℕ) → first_structural (g t) ≡ stop (f t)) → (items : List Item) → first_structural (events g (map blocked items)) ≡ stop (events f items)
  items_stop f g h [] = refl
  items_stop f g h (TextItem text ∷ items) = items_stop f g h items
  items_stop f g h (FaultItem fault ∷ items) = refl
  items_stop f g h (PlaceholderItem label meaning ∷ items) =
      let t = meaning_text meaning in
      let under : first_structural (g t ++ events g (map blocked items)) ≡ stop (f t ++ events f items) = rw (first_structural-append (g t) (events g (map blocked items)), stop-append (f t) (events f items), h t, items_stop f g h items) refl in
      elim (test label meaning) as (λ b. first_structural (events g (cond b (FaultItem marker) (PlaceholderItem label meaning) ∷ map blocked items)) ≡ cond b (Some marker) (stop (f t ++ events f items))) [ true ↦ refl | false ↦ under ]

  module _ (resolve : List ℕ → List Item) where
    inside_stops : (levels : ℕ) (t : List ℕ) → first_structural (inside (blocking resolve) levels t) ≡ stop (inside resolve levels t)
    inside_stops zero t = refl
    inside_stops (suc levels) t =
        let es = events (inside resolve levels) (resolve t) in
        let es' = events (inside (blocking resolve) levels) (blocking resolve t) in
        rw (first_structural-append es' (Close ∷ []), stop-append es (Close ∷ []), items_stop (inside resolve levels) (inside (blocking resolve) levels) (inside_stops levels) (resolve t)) refl

    pub tree_stops : (levels : ℕ) (pattern : List ℕ) → first_structural (tree_within levels (blocking resolve) pattern) ≡ stop (tree_within levels resolve pattern)
    tree_stops levels pattern = items_stop (inside resolve levels) (inside (blocking resolve) levels) (inside_stops levels) (resolve pattern)

    -- ---- the items

    bytes_blocked : (items : List Item) → AreBytes items → map blocked items ≡ items
    bytes_blocked [] bytes = refl
    bytes_blocked (TextItem text ∷ items) bytes = ap (λ is. TextItem text ∷ is) (bytes_blocked items bytes)
    bytes_blocked (FaultItem fault ∷ items) bytes = absurd bytes
    bytes_blocked (PlaceholderItem label meaning ∷ items) bytes = absurd bytes

    flat_blocked : (text : List ℕ) → IsFlat resolve text → IsFlat (blocking resolve) text
    flat_blocked text flat =
        let same = bytes_blocked (resolve text) flat.bytes in
        record { bytes = subst AreBytes (sym same) flat.bytes; adds_up = ap bytes_in same ∙ flat.adds_up }

    sound_blocked : (definitions : Definitions) (items : List Item) → AreSound resolve definitions items → AreSound (blocking resolve) definitions (map blocked items)
    sound_blocked definitions [] sound = tt
    sound_blocked definitions (TextItem text ∷ items) sound = sound_blocked definitions items sound
    sound_blocked definitions (FaultItem fault ∷ items) sound = sound_blocked definitions items sound
    sound_blocked definitions (PlaceholderItem label (Inline text) ∷ items) sound =
        let rest = sound_blocked definitions items sound.1 in
        elim (test label (Inline text)) as (λ b. AreSound (blocking resolve) definitions (cond b (FaultItem marker) (PlaceholderItem label (Inline text)) ∷ map blocked items)) [ true ↦ rest | false ↦ (flat_blocked text sound.0, rest) ]
    sound_blocked definitions (PlaceholderItem label (Stored text) ∷ items) sound =
        let rest = sound_blocked definitions items sound.1 in
        elim (test label (Stored text)) as (λ b. AreSound (blocking resolve) definitions (cond b (FaultItem marker) (PlaceholderItem label (Stored text)) ∷ map blocked items)) [ true ↦ rest | false ↦ (sound.0, rest) ]

    pub sound_blocking : (definitions : Definitions) → IsSound resolve definitions → IsSound (blocking resolve) definitions
    sound_blocking definitions sound = record { sound = λ text. sound_blocked definitions (resolve text) (sound.sound text) }
