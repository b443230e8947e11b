-- The events that remain of a tree, while the open texts are on a stack. Each step takes the first of them and leaves the
-- others.
use Rattle.std.proofs.Common.{◌≡◌, ℕ, zero, suc, ◌-◌, ◌<◌, List, [], ◌∷◌, ◌++◌, length, refl, ◌∙◌, ap, sym, arith, append_assoc, append-nil}
use Rattle.grok.specs.Tree.{Label, Meaning, meaning_text, Item, TextItem, FaultItem, PlaceholderItem, Event, Open, Close, events, inside}

-- The remaining events, with `levels_left` levels left in the outermost text. First come those of the innermost text, and
-- then those of the texts around it, from the inside out.
abbrev pub events_left : (List ℕ → List Item) → ℕ → List (List Item) → List Item → List Event
events_left items levels_left [] left = events (inside items levels_left) left
events_left items levels_left (outer ∷ around) left = events_left items (levels_left - 1) around left ++ Close ∷ events (inside items levels_left) outer

-- ---- items

-- the events of one item and of those after it
first_item : (inner : List ℕ → List Event) (item : Item) (rest : List Item) → events inner (item ∷ rest) ≡ events inner (item ∷ []) ++ events inner rest
first_item inner (TextItem text) rest = refl
first_item inner (FaultItem fault) rest = refl
first_item inner (PlaceholderItem label meaning) rest =
    ap (λ es. Open label meaning ∷ es) (ap (λ es. es ++ events inner rest) (sym (append-nil (inner (meaning_text meaning)))))

pub left_item : (items : List ℕ → List Item) (levels : ℕ) (around : List (List Item)) (item : Item) (rest : List Item)
    → events_left items levels around (item ∷ rest) ≡ events (inside items (levels - length around)) (item ∷ []) ++ events_left items levels around rest
left_item items levels [] item rest =
    let same : levels ≡ levels - 0 = omega arith in
    first_item (inside items levels) item rest ∙ ap (λ n. events (inside items n) (item ∷ []) ++ events (inside items levels) rest) same
left_item items levels (outer ∷ around) item rest =
    let same : (levels - 1) - length around ≡ levels - suc (length around) = omega arith in
    let more = events_left items (levels - 1) around rest in
    let end = Close ∷ events (inside items levels) outer in
    ap (λ es. es ++ end) (left_item items (levels - 1) around item rest)
    ∙ append_assoc (events (inside items ((levels - 1) - length around)) (item ∷ [])) more end
    ∙ ap (λ n. events (inside items n) (item ∷ []) ++ (more ++ end)) same

pub left_items : (items : List ℕ → List Item) (levels : ℕ) (around : List (List Item)) (front rest : List Item)
    → events_left items levels around (front ++ rest) ≡ events (inside items (levels - length around)) front ++ events_left items levels around rest
left_items items levels around [] rest = refl
left_items items levels around (item ∷ front) rest =
    let inner = inside items (levels - length around) in
    left_item items levels around item (front ++ rest)
    ∙ ap (λ es. events inner (item ∷ []) ++ es) (left_items items levels around front rest)
    ∙ sym (append_assoc (events inner (item ∷ [])) (events inner front) (events_left items levels around rest))
    ∙ ap (λ es. es ++ events_left items levels around rest) (sym (first_item inner item front))

-- each item has an event
pub some_event : (inner : List ℕ → List Event) (item : Item) → 0 < length (events inner (item ∷ []))
some_event inner (TextItem text) = omega arith
some_event inner (FaultItem fault) = omega arith
some_event inner (PlaceholderItem label meaning) = omega arith

-- ---- steps

module _ (items : List ℕ → List Item) where
  -- the end of the innermost text
  pub left_close : (levels_left : ℕ) (around : List (List Item)) (outer : List Item) → events_left items levels_left (around ++ outer ∷ []) [] ≡ Close ∷ events_left items levels_left around outer
  left_close levels_left [] outer = refl
  left_close levels_left (first ∷ around) outer = ap (λ es. es ++ Close ∷ events (inside items levels_left) first) (left_close (levels_left - 1) around outer)

  -- a text is opened in the innermost one
  pub left_enter : (levels_left : ℕ) (around : List (List Item)) (label : Label) (meaning : Meaning) (rest : List Item) → length around < levels_left
      → events_left items levels_left around (PlaceholderItem label meaning ∷ rest) ≡ Open label meaning ∷ events_left items levels_left (around ++ rest ∷ []) (items (meaning_text meaning))
  left_enter zero [] label meaning rest low = absurd (omega arith)
  left_enter (suc levels_left) [] label meaning rest low =
      let below : levels_left ≡ suc levels_left - 1 = omega arith in
      let text = items (meaning_text meaning) in
      ap (λ es. Open label meaning ∷ es) (append_assoc (events (inside items levels_left) text) (Close ∷ []) (events (inside items (suc levels_left)) rest)
      ∙ ap (λ n. events (inside items n) text ++ Close ∷ events (inside items (suc levels_left)) rest) below)
  left_enter levels_left (outer ∷ around) label meaning rest low = ap (λ es. es ++ Close ∷ events (inside items levels_left) outer) (left_enter (levels_left - 1) around label meaning rest (omega arith))
