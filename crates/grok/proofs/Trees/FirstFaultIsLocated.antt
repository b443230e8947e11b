-- The first event that is a fault comes from the place of the first fault.
use Rattle.std.proofs.Common.{◌≡◌, ℕ, suc, Bool, true, false, List, [], ◌∷◌, ◌++◌, Option, Some, None, refl, sym, ◌∙◌, ap, subst, append-nil}
use Rattle.grok.specs.Tree.{Definitions, Fault, TooDeep, Inline, Stored, Item, TextItem, FaultItem, PlaceholderItem, items_of, events, inside, first_structural, Event, Text, Open, Close, FaultEvent}
use Rattle.grok.specs.FaultLocations.{Step, fault_within, IsPieceAt, IsOwnFault, IsFaultAt}
use Rattle.grok.specs.FaultLocations as faults
use Rattle.std.specs.Prelude.{IsTrue, not, is_some, if◌then◌else◌}
use Rattle.std.specs.Option.{option_map}
use Rattle.grok.specs.declared.errors.fault.Fault.{Fault as CodeFault}
use Rattle.grok.specs.Items.{fault_view}
use Rattle.grok.specs.steps.FaultSearches.{is_fault, fault_of_item}
use Rattle.grok.specs.ByteLocations.{IsOwnEvent, Regular, Opening, Closing, Broken, Deep, IsEventAt, Here, Inside}
use Rattle.grok.proofs.Sizes.SizeIsThatOfTree.{first_structural-append, or_else}
use Rattle.grok.proofs.Sizes.TextsWithoutPlaceholders.{AreBytes, IsFlat, AreSound, sound_rest}
use Rattle.grok.proofs.Sizes.ItemsAreSound.{sound_texts}
use Rattle.grok.proofs.Trees.EventsInTree.{event_follows, own_event}
use Rattle.grok.proofs.Trees.TextIsWritten.{clean_parts}

-- the first fault comes after events without one
pub after_clean : (es rest : List Event) → first_structural es ≡ None → first_structural (es ++ rest) ≡ first_structural rest
after_clean es rest none = first_structural-append es rest ∙ ap (λ o. or_else o (first_structural rest)) none

-- ---- the fault of an event

own_fault : (stored : Definitions) (levels : ℕ) (item : Item) (own : List Event) (event : Event) (fault : Fault) → IsOwnEvent stored levels item own event → event ≡ FaultEvent fault
    → IsOwnFault levels item fault × (fault_of_item item ≡ fault)
own_fault stored levels item own event fault (Regular _ part) is = cc
own_fault stored levels item own event fault (Opening _ label meaning) is = cc
own_fault stored levels item own event fault (Closing n label meaning) is = cc
own_fault stored levels item own event fault (Broken _ broken) is = let same : broken ≡ fault = cc in (subst (IsOwnFault levels (FaultItem broken)) same (faults.Broken levels broken), same)
own_fault stored levels item own event fault (Deep label meaning) is = let same : TooDeep ≡ fault = cc in (subst (IsOwnFault 0 (PlaceholderItem label meaning)) same (faults.Deep label meaning), same)

-- ---- the location of an event that is a fault

bytes_clean : (inner : List ℕ → List Event) (items : List Item) → AreBytes items → first_structural (events inner items) ≡ None
bytes_clean inner [] bytes = refl
bytes_clean inner (TextItem text ∷ items) bytes = bytes_clean inner items bytes
bytes_clean inner (FaultItem fault ∷ items) bytes = absurd bytes
bytes_clean inner (PlaceholderItem label meaning ∷ items) bytes = absurd bytes

sound_here : (stored : Definitions) (before : List Item) (item : Item) (after : List Item) → AreSound (items_of stored) stored (before ++ item ∷ after) → AreSound (items_of stored) stored (item ∷ after)
sound_here stored [] item after h = h
sound_here stored (first ∷ before) item after h = sound_here stored before item after (sound_rest (items_of stored) stored first (before ++ item ∷ after) h)

piece_sound : (stored : Definitions) (text : List ℕ) (items : List Item) (from to : ℕ) (item : Item) (stands : IsPieceAt stored text items from to item) → AreSound (items_of stored) stored (item ∷ stands.after)
piece_sound stored text items from to item stands = sound_here stored items item stands.after (subst (AreSound (items_of stored) stored) stands.items ((sound_texts stored).sound text))

pub located : (stored : Definitions) (levels : ℕ) (text : List ℕ) (path : List Step) (found : List ℕ) (from to : ℕ) (item : Item) (before : List Event) (event : Event) (fault : Fault)
    → IsEventAt stored levels text path found from to item before event → event ≡ FaultEvent fault → first_structural before ≡ None → IsFaultAt stored levels text path found from to fault
located stored levels text path found from to item before event fault (Here _ _ items _ _ _ own _ stands is_own) is clean =
    faults.Here levels text items from to item fault stands (clean_parts (events (inside (items_of stored) levels) items) own clean).0 (own_fault stored levels item own event fault is_own is).0
located stored levels text path found from to item before event fault (Inside n _ items begin end label (Stored definition) rest _ _ _ _ below _ stands at) is clean =
    let (front, back) = clean_parts (events (inside (items_of stored) (suc n)) items) (Open label (Stored definition) ∷ below) clean in
    faults.Inside n text items begin end label definition rest found from to fault stands (piece_sound stored text items begin end (PlaceholderItem label (Stored definition)) stands).0 front
    (located stored n definition rest found from to item below event fault at is back)
located stored levels text path found from to item before event fault (Inside n _ items begin end label (Inline definition) rest _ _ _ _ below _ stands at) is clean =
    let (front, back) = clean_parts (events (inside (items_of stored) (suc n)) items) (Open label (Inline definition) ∷ below) clean in
    let (after, cut) = event_follows stored n definition rest found from to item below event at in
    let flat : IsFlat (items_of stored) definition = (piece_sound stored text items begin end (PlaceholderItem label (Inline definition)) stands).0 in
    let none : None ≡ first_structural (below ++ FaultEvent fault ∷ after) = sym (bytes_clean (inside (items_of stored) n) (items_of stored definition) flat.bytes) ∙ ap first_structural (cut ∙ ap (λ event. below ++ event ∷ after) is) in
    let some : None ≡ Some fault = none ∙ after_clean below (FaultEvent fault ∷ after) back in
    cc

-- ---- what the search finds

pub passes_event : (event : Event) (found : Bool) → found ≡ is_fault event → IsTrue (not found) → (before : List Event) → first_structural before ≡ None → first_structural (before ++ event ∷ []) ≡ None
passes_event (Text text) found is other before clean = after_clean before (Text text ∷ []) clean
passes_event (Open label meaning) found is other before clean = after_clean before (Open label meaning ∷ []) clean
passes_event Close found is other before clean = after_clean before (Close ∷ []) clean
passes_event (FaultEvent fault) true is other before clean = cc
passes_event (FaultEvent fault) false is other before clean = cc

-- a definition is passed over only if it has no fault
pub passed_if : (is_passed : Bool) (found : Option CodeFault) (es : List Event) → is_some found ≡ not is_passed → option_map fault_view found ≡ first_structural (es ++ Close ∷ [])
    → (before : List Event) → first_structural before ≡ None → first_structural (before ++ (if is_passed then es else [])) ≡ None
passed_if true None es is same before clean = after_clean before es clean ∙ (clean_parts es (Close ∷ []) (sym same)).0
passed_if true (Some fault) es is same before clean = cc
passed_if false found es is same before clean = ap first_structural (append-nil before) ∙ clean

-- a fault after events without a fault is the first one
pub fault_found : (stored : Definitions) (levels : ℕ) (text : List ℕ) (path : List Step) (found : List ℕ) (from to : ℕ) (item : Item) (before : List Event) (event : Event) (after all : List Event)
    → IsEventAt stored levels text path found from to item before event → all ≡ before ++ event ∷ after → first_structural before ≡ None → is_fault event ≡ true
    → (Some (fault_of_item item) ≡ first_structural all) × IsFaultAt stored levels text path found from to (fault_of_item item)
fault_found stored levels text path found from to item before (FaultEvent fault) after all at cut clean is =
    let o = own_event stored levels text path found from to item before (FaultEvent fault) at in
    let same = (own_fault stored o.levels item o.own (FaultEvent fault) fault o.is_own refl).1 in (
      ap Some same ∙ sym (ap first_structural cut ∙ after_clean before (FaultEvent fault ∷ after) clean),
      subst (IsFaultAt stored levels text path found from to) (sym same) (located stored levels text path found from to item before (FaultEvent fault) fault at refl clean),
    )
fault_found stored levels text path found from to item before (Text part) after all at cut clean is = cc
fault_found stored levels text path found from to item before (Open label meaning) after all at cut clean is = cc
fault_found stored levels text path found from to item before Close after all at cut clean is = cc
