-- An event that comes from a place is in the tree, after the events before it.
use Rattle.std.proofs.Common.{◌≡◌, ℕ, suc, List, [], ◌∷◌, ◌++◌, refl, sym, ◌∙◌, ap, append-nil, append_assoc}
use Rattle.grok.specs.Tree.{Definitions, meaning_text, Item, TextItem, FaultItem, PlaceholderItem, items_of, events, inside, Event, Text, Open, Close, FaultEvent}
use Rattle.grok.specs.FaultLocations.{Step, IsPieceAt}
use Rattle.grok.specs.ByteLocations.{IsOwnEvent, Regular, Opening, Closing, Broken, Deep, IsEventAt, Here, Inside}

pub events-append : (inner : List ℕ → List Event) (xs ys : List Item) → events inner (xs ++ ys) ≡ events inner xs ++ events inner ys
events-append inner [] ys = refl
events-append inner (TextItem text ∷ xs) ys = ap (λ es. Text text ∷ es) (events-append inner xs ys)
events-append inner (FaultItem fault ∷ xs) ys = ap (λ es. FaultEvent fault ∷ es) (events-append inner xs ys)
events-append inner (PlaceholderItem label meaning ∷ xs) ys =
    ap (λ es. Open label meaning ∷ es) (ap (λ es. inner (meaning_text meaning) ++ es) (events-append inner xs ys) ∙ sym (append_assoc (inner (meaning_text meaning)) (events inner xs) (events inner ys)))

-- what follows an event of a list
abbrev pub Follows : List Event → List Event → Event → Type 0
Follows all before event = (after : List Event) × (all ≡ before ++ event ∷ after)

own_follows : (stored : Definitions) (levels : ℕ) (item : Item) (own : List Event) (event : Event) → IsOwnEvent stored levels item own event → Follows (events (inside (items_of stored) levels) (item ∷ [])) own event
own_follows stored levels item own event (Regular _ part) = ([], refl)
own_follows stored levels item own event (Opening _ label meaning) = (inside (items_of stored) levels (meaning_text meaning) ++ [], refl)
own_follows stored levels item own event (Closing n label meaning) =
    ([], ap (λ es. Open label meaning ∷ es) (append-nil (events (inside (items_of stored) n) (items_of stored (meaning_text meaning)) ++ Close ∷ [])))
own_follows stored levels item own event (Broken _ fault) = ([], refl)
own_follows stored levels item own event (Deep label meaning) = ([], refl)

item_follows : (stored : Definitions) (levels : ℕ) (text : List ℕ) (items : List Item) (from to : ℕ) (item : Item) (own : List Event) (event : Event) → IsPieceAt stored text items from to item
    → Follows (events (inside (items_of stored) levels) (item ∷ [])) own event
    → Follows (events (inside (items_of stored) levels) (items_of stored text)) (events (inside (items_of stored) levels) items ++ own) event
item_follows stored levels text items from to item own event stands (after, is) =
    let inner = inside (items_of stored) levels in
    let front = events inner items in
    let rest = events inner stands.after in (
      after ++ rest,
      ap (events inner) stands.items ∙ events-append inner items (item ∷ stands.after) ∙ ap (λ es. front ++ es) (events-append inner (item ∷ []) stands.after ∙ ap (λ es. es ++ rest) is ∙ append_assoc own (event ∷ after) rest)
          ∙ sym (append_assoc front own (event ∷ (after ++ rest))),
    )

pub event_follows : (stored : Definitions) (levels : ℕ) (text : List ℕ) (path : List Step) (found : List ℕ) (from to : ℕ) (item : Item) (before : List Event) (event : Event)
    → IsEventAt stored levels text path found from to item before event → Follows (events (inside (items_of stored) levels) (items_of stored text)) before event
event_follows stored levels text path found from to item before event (Here _ _ items _ _ _ own _ stands is_own) =
    item_follows stored levels text items from to item own event stands (own_follows stored levels item own event is_own)
event_follows stored levels text path found from to item before event (Inside n _ items begin end label meaning rest _ _ _ _ below _ stands at) =
    let (after, is) = event_follows stored n (meaning_text meaning) rest found from to item below event at in
    item_follows stored (suc n) text items begin end (PlaceholderItem label meaning) (Open label meaning ∷ below) event stands (
      (after ++ Close ∷ []) ++ [],
      ap (λ es. Open label meaning ∷ es)
          (ap (λ es. (es ++ Close ∷ []) ++ []) is ∙ ap (λ es. es ++ []) (append_assoc below (event ∷ after) (Close ∷ [])) ∙ append_assoc below (event ∷ (after ++ Close ∷ [])) []),
    )

-- the event is one of the item itself
pub record IsOwn (stored : Definitions) (item : Item) (event : Event) : Type 0 where
  pub levels : ℕ
  pub own : List Event
  pub is_own : IsOwnEvent stored levels item own event

pub own_event : (stored : Definitions) (levels : ℕ) (text : List ℕ) (path : List Step) (found : List ℕ) (from to : ℕ) (item : Item) (before : List Event) (event : Event)
    → IsEventAt stored levels text path found from to item before event → IsOwn stored item event
own_event stored levels text path found from to item before event (Here _ _ items _ _ _ own _ stands is_own) = record { levels = levels; own = own; is_own = is_own }
own_event stored levels text path found from to item before event (Inside n _ items begin end label meaning rest _ _ _ _ below _ stands at) =
    own_event stored n (meaning_text meaning) rest found from to item below event at
