-- What holds of each step of measuring holds of measuring a whole text: the one induction over levels and
-- items.
use Rattle.std.proofs.Common.{◌≡◌, ℕ, zero, suc, max, Bool, List, [], ◌∷◌, Option, Result, Some, None, Ok, Err, refl, sym, ◌∙◌, subst}
use Rattle.grok.specs.Tree.{Definitions, Fault, TooDeep, Label, Inline, Stored, Item, TextItem, FaultItem, PlaceholderItem}
use Rattle.grok.specs.steps.Sizes.{Size, no_size, size_of_bytes, both, wrapped}
use Rattle.grok.specs.steps.MeasuredOnce.{Progress, InProgress, HasSize, known_result, reach_within, failed_progress, State, with_progress, with_reach, piece_read, labelled, ended, inlined, Reading, then_rest, enclosed, finish, by_result, by_progress, visit, items_within}
use Rattle.grok.proofs.Sizes.TextsWithoutPlaceholders.{IsFlat, AreSound, IsSound}

-- the progress of a definition that was measured with this result
abbrev pub last_progress : ℕ → Reading → Progress Size
last_progress levels (Ok size, st) = HasSize size
last_progress levels (Err fault, st) = failed_progress fault levels st.reach

abbrev pub with_last_progress : List ℕ → ℕ → Reading → Reading
with_last_progress name levels answer = (answer.0, with_progress answer.1 name (last_progress levels answer))

pub finish_sets_progress : (name : List ℕ) (levels : ℕ) (answer : Reading) → with_last_progress name levels answer ≡ finish name levels answer
finish_sets_progress name levels (Ok size, st) = refl
finish_sets_progress name levels (Err fault, st) = refl

-- an item with this size, and the result of the items after it
abbrev pub after_size : Size → Reading → Reading
after_size size later = (both (Ok size) later.0, with_reach later.1 (max size.height later.1.reach))

-- the progress of the name gives no result for this many levels
abbrev pub IsUnread : State → List ℕ → ℕ → Type 0
IsUnread st name levels = (progress : Progress Size) → st.by_name name ≡ Some progress → known_result progress levels ≡ None

module _ (alias_only : Bool) (resolve : List ℕ → List Item) (definitions : Definitions) where
  -- Relations between what is read with `levels` levels left, the state before and the result. They hold of each
  -- step if they hold of the steps inside it.
  pub record InductionSteps (OfItem : ℕ → Item → State → Reading → Type 0) (OfItems : ℕ → List Item → State → Reading → Type 0) (OfText : ℕ → Label → List ℕ → State → Reading → Type 0) : Type 0 where
    pub text : (levels : ℕ) (text : List ℕ) (st : State) → OfItem levels (TextItem text) st (Ok (size_of_bytes text), st)
    pub fault : (levels : ℕ) (fault : Fault) (st : State) → OfItem levels (FaultItem fault) st (Err fault, with_reach st 0)
    pub inline : (levels : ℕ) (label : Label) (text : List ℕ) (st : State) → IsFlat resolve text
        → OfItem levels (PlaceholderItem label (Inline text)) st (wrapped alias_only label (inlined levels text), with_reach (labelled label st) 1)
    pub stored : (levels : ℕ) (label : Label) (text : List ℕ) (st : State) (inner : Reading) → OfText levels label text (labelled label st) inner
        → OfItem levels (PlaceholderItem label (Stored text)) st (enclosed alias_only label inner)
    pub none : (levels : ℕ) (st : State) → OfItems levels [] st (Ok no_size, ended st)
    pub failed : (levels : ℕ) (item : Item) (items : List Item) (st : State) (fault : Fault) (st' : State) → OfItem levels item (piece_read st) (Err fault, st') → OfItems levels (item ∷ items) st (Err fault, st')
    pub more : (levels : ℕ) (item : Item) (items : List Item) (st : State) (size : Size) (st' : State) (later : Reading) → OfItem levels item (piece_read st) (Ok size, st') → OfItems levels items st' later
        → OfItems levels (item ∷ items) st (after_size size later)
    pub deep : (label : Label) (text : List ℕ) (st : State) → OfText zero label text st (Err TooDeep, with_reach st 0)
    pub known : (levels : ℕ) (label : Label) (text : List ℕ) (st : State) (progress : Progress Size) (r : Result Size Fault) → definitions label.name ≡ Some text → st.by_name label.name ≡ Some progress → known_result progress (suc levels) ≡ Some r
        → OfText (suc levels) label text st (r, with_reach st (reach_within progress (suc levels)))
    pub fresh : (levels : ℕ) (label : Label) (text : List ℕ) (st : State) (answer : Reading) → definitions label.name ≡ Some text → IsUnread st label.name (suc levels)
        → OfItems levels (resolve text) (with_progress st label.name InProgress) answer → OfText (suc levels) label text st (with_last_progress label.name (suc levels) answer)

  module _ (OfItem : ℕ → Item → State → Reading → Type 0) (OfItems : ℕ → List Item → State → Reading → Type 0) (OfText : ℕ → Label → List ℕ → State → Reading → Type 0) (steps : InductionSteps OfItem OfItems OfText) where
    abbrev TextReads : ℕ → Type 0
    TextReads levels = (label : Label) (text : List ℕ) (st : State) → definitions label.name ≡ Some text → OfText levels label text st (visit alias_only resolve levels label.name text st)

    -- an item, and the items after it if it has a size
    then_reads : (levels : ℕ) (item : Item) (items : List Item) (st : State) (first : Reading) → OfItem levels item (piece_read st) first → ((st' : State) → OfItems levels items st' (items_within alias_only resolve levels items st'))
        → OfItems levels (item ∷ items) st (then_rest first.0 first.1 (items_within alias_only resolve levels items))
    then_reads levels item items st (Err fault, st') h rest = steps.failed levels item items st fault st' h
    then_reads levels item items st (Ok size, st') h rest = steps.more levels item items st size st' (items_within alias_only resolve levels items st') h (rest st')

    items_read : (levels : ℕ) → TextReads levels → (items : List Item) (st : State) → AreSound resolve definitions items → OfItems levels items st (items_within alias_only resolve levels items st)
    items_read levels v [] st sound = steps.none levels st
    items_read levels v (TextItem text ∷ items) st sound =
        then_reads levels (TextItem text) items st (Ok (size_of_bytes text), piece_read st) (steps.text levels text (piece_read st)) (λ st'. items_read levels v items st' sound)
    items_read levels v (FaultItem fault ∷ items) st sound = steps.failed levels (FaultItem fault) items st fault (with_reach (piece_read st) 0) (steps.fault levels fault (piece_read st))
    items_read levels v (PlaceholderItem label (Inline text) ∷ items) st sound =
        then_reads levels (PlaceholderItem label (Inline text)) items st (wrapped alias_only label (inlined levels text), with_reach (labelled label (piece_read st)) 1)
        (steps.inline levels label text (piece_read st) sound.0) (λ st'. items_read levels v items st' sound.1)
    items_read levels v (PlaceholderItem label (Stored text) ∷ items) st sound =
        let inner = visit alias_only resolve levels label.name text (labelled label (piece_read st)) in
        then_reads levels (PlaceholderItem label (Stored text)) items st (enclosed alias_only label inner)
        (steps.stored levels label text (piece_read st) inner (v label text (labelled label (piece_read st)) sound.0)) (λ st'. items_read levels v items st' sound.1)

    -- a definition with this progress, or with none
    by_progress_reads : (levels : ℕ) (label : Label) (text : List ℕ) (st : State) (answer : Reading) → definitions label.name ≡ Some text → OfItems levels (resolve text) (with_progress st label.name InProgress) answer
        → (known : Option (Progress Size)) → st.by_name label.name ≡ known → OfText (suc levels) label text st (by_progress known (suc levels) st (finish label.name (suc levels) answer))
    by_progress_reads levels label text st answer stored h None is =
        subst (OfText (suc levels) label text st) (finish_sets_progress label.name (suc levels) answer)
        (steps.fresh levels label text st answer stored (λ progress e. let bad : None ≡ Some progress = sym is ∙ e in cc) h)
    by_progress_reads levels label text st answer stored h (Some progress) is = go (known_result progress (suc levels)) refl
      where
        go : (o : Option (Result Size Fault)) → known_result progress (suc levels) ≡ o
            → OfText (suc levels) label text st (by_result o (with_reach st (reach_within progress (suc levels))) (finish label.name (suc levels) answer))
        go None e =
            subst (OfText (suc levels) label text st) (finish_sets_progress label.name (suc levels) answer)
            (steps.fresh levels label text st answer stored (λ other f. let same : progress ≡ other = cc in subst (λ m. known_result m (suc levels) ≡ None) same e) h)
        go (Some r) e = steps.known levels label text st progress r stored is e

    module _ (sound : IsSound resolve definitions) where
      text_reads : (levels : ℕ) → TextReads levels
      text_reads zero label text st stored = steps.deep label text st
      text_reads (suc levels) label text st stored =
          let begun = with_progress st label.name InProgress in
          by_progress_reads levels label text st (items_within alias_only resolve levels (resolve text) begun) stored
          (items_read levels (text_reads levels) (resolve text) begun (sound.sound text)) (st.by_name label.name) refl

      -- THE INDUCTION
      pub reads : (levels : ℕ) (text : List ℕ) (st : State) → OfItems levels (resolve text) st (items_within alias_only resolve levels (resolve text) st)
      reads levels text st = items_read levels (text_reads levels) (resolve text) st (sound.sound text)
