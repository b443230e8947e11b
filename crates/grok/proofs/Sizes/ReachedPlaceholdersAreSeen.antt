-- A placeholder of a given name, or with an alias that ends in a number in brackets, is seen while measuring
-- exactly if the tree reaches one.
-- The proof replaces each such placeholder by a fault. Reading then ends at that fault exactly where it would
-- have read the placeholder, and the first fault of the tree shows whether there is one.
use Rattle.std.proofs.Common.{◌≡◌, ℕ, suc, Bool, true, false, cond, ◌||◌, List, [], ◌∷◌, Option, Result, Some, None, Ok, Err, refl, sym, ◌∙◌, ap, subst, ◌⊎◌, inl, inr}
use Rattle.std.proofs.lemmas.Bool.{true≢false}
use Rattle.std.proofs.lemmas.Slice.Eq.{bytes_eq-Decides}
use Rattle.std.specs.Prelude.{is_some, map}
use Rattle.std.specs.Str.{bytes_eq}
use Rattle.grok.specs.Tree.{Definitions, Fault, MalformedPiece, Missing, TooDeep, Label, Meaning, Inline, Stored, Item, FaultItem, PlaceholderItem, Event, Text, Open, Close, FaultEvent, tree_within, first_structural, reached}
use Rattle.grok.specs.Keys.{ends_in_number, has_numbered_alias}
use Rattle.grok.specs.steps.Sizes.{Size, both, wrapped}
use Rattle.grok.specs.steps.MeasuredOnce.{Progress, InProgress, known_result, State, with_progress, with_reach, reach_within, piece_read, labelled, inlined, Reading, then_rest, enclosed, finish, by_result, by_progress, visit, item_within, items_within, nothing_measured, measure_within}
use Rattle.grok.specs.Measured.{reaches}
use Rattle.grok.proofs.Sizes.TextsWithoutPlaceholders.{IsSound}
use Rattle.grok.proofs.Sizes.SizeIsThatOfTree.{tree_sizes}
use Rattle.grok.proofs.Sizes.ReadingInduction.{last_progress, with_last_progress, finish_sets_progress, after_size, InductionSteps, reads}
use Rattle.grok.proofs.Sizes.RememberingChangesNothing.{measure_right}
use Rattle.grok.proofs.Sizes.CountersAreExact.{is_started, started_with_progress}
use Rattle.grok.proofs.Trees.FaultInPlaceOfOpen as block
use Rattle.grok.proofs.Trees.FaultInPlaceOfOpen.{stop}

-- if either test is true, so is the other
pub alike : (p q : Bool) → (p ≡ true → q ≡ true) → (q ≡ true → p ≡ true) → p ≡ q
alike true q f g = sym (f refl)
alike false true f g = g refl
alike false false f g = refl

or_right : (a b : Bool) → b ≡ true → (a || b) ≡ true
or_right true b e = refl
or_right false b e = e

-- What is watched for: placeholders with such a label, and placeholders that stand for the stored definition of
-- such a name. The flag is set once one was read, and `has` is whether a list of events has one.
pub record Watch : Type 0 where
  pub of_label : Label → Bool
  pub of_name : List ℕ → Bool
  pub flag : (List ℕ → Option (Progress Size)) → Bool → Bool
  pub has : List Event → Bool

abbrev pub is_watched : Watch → Label → Meaning → Bool
is_watched w label (Inline text) = w.of_label label
is_watched w label (Stored text) = w.of_label label || w.of_name label.name

abbrev pub is_on : Watch → State → Bool
is_on w st = w.flag st.by_name st.has_numbered

-- how the flag changes, and where the first fault is with a fault in place of each such open
pub record IsWatch (w : Watch) : Type 0 where
  pub starts_off : is_on w nothing_measured ≡ false
  pub labels : (label : Label) (st : State) → is_on w (labelled label st) ≡ (w.of_label label || is_on w st)
  pub names : (name : List ℕ) (progress : Progress Size) (st : State) → is_on w (with_progress st name progress) ≡ (w.of_name name || is_on w st)
  pub known : (name : List ℕ) (progress : Progress Size) (st : State) → w.of_name name ≡ true → st.by_name name ≡ Some progress → is_on w st ≡ true
  pub stops : (marker : Fault) (es : List Event) → stop (is_watched w) marker es ≡ cond (w.has (reached es)) (Some marker) (first_structural es)

-- the flag is set, or a name that is watched for could not be opened
abbrev pub IsSeen : Watch → Reading → Type 0
IsSeen w answer = (is_on w answer.1 ≡ true) ⊎ ((fault : Fault) × (name : List ℕ) × (answer.0 ≡ Err fault) × (w.of_name name ≡ true))

-- ---- reading, and reading where a fault stands in place of each open that is watched for

-- a text that has to be read
unread_progress : (levels : ℕ) (st : State) (fresh : Reading) (known : Option (Progress Size)) → ((progress : Progress Size) → known ≡ Some progress → known_result progress levels ≡ None) → by_progress known levels st fresh ≡ fresh
unread_progress levels st fresh None unread = refl
unread_progress levels st fresh (Some progress) unread = ap (λ o. by_result o (with_reach st (reach_within progress levels)) fresh) (unread progress refl)

module _ (w : Watch) (is_watch : IsWatch w) (marker : Fault) (alias_only : Bool) (resolve : List ℕ → List Item) (definitions : Definitions) where
  abbrev blocked : Item → Item
  blocked = block.blocked (is_watched w) marker

  abbrev blocking : List ℕ → List Item
  blocking = block.blocking (is_watched w) marker resolve

  -- The other reading is the same and nothing that is watched for was read, or it ends at the fault that
  -- replaces what was read.
  abbrev Alike : Reading → Reading → Type 0
  Alike answer other = ((other ≡ answer) × (is_on w answer.1 ≡ false)) ⊎ ((other.0 ≡ Err marker) × IsSeen w answer)

  record Seen (st : State) (answer other : Reading) : Type 0 where
    keeps : is_on w st ≡ true → is_on w answer.1 ≡ true
    same : is_on w st ≡ false → Alike answer other

  abbrev SeenItem : ℕ → Item → State → Reading → Type 0
  SeenItem levels item st answer = Seen st answer (item_within alias_only blocking levels (blocked item) st)

  abbrev SeenItems : ℕ → List Item → State → Reading → Type 0
  SeenItems levels items st answer = Seen st answer (items_within alias_only blocking levels (map blocked items) st)

  record SeenText (levels : ℕ) (label : Label) (text : List ℕ) (st : State) (answer : Reading) : Type 0 where
    keeps : is_on w st ≡ true → is_on w answer.1 ≡ true
    same : w.of_name label.name ≡ false → is_on w st ≡ false → Alike answer (visit alias_only blocking levels label.name text st)
    cache : w.of_name label.name ≡ true → IsSeen w answer

  -- what was read inside brackets, or after a size
  seen_enclosed : (label : Label) (answer : Reading) → IsSeen w answer → IsSeen w (enclosed alias_only label answer)
  seen_enclosed label answer (inl on) = inl on
  seen_enclosed label answer (inr (fault, name, e, watched)) = inr (fault, name, ap (wrapped alias_only label) e, watched)

  seen_after_size : (size : Size) (later : Reading) → IsSeen w later → IsSeen w (after_size size later)
  seen_after_size size later (inl on) = inl on
  seen_after_size size later (inr (fault, name, e, watched)) = inr (fault, name, ap (both (Ok size)) e, watched)

  -- the flag stays set
  label_on : (label : Label) (st : State) → is_on w st ≡ true → is_on w (labelled label st) ≡ true
  label_on label st on = is_watch.labels label st ∙ or_right (w.of_label label) (is_on w st) on

  name_on : (name : List ℕ) (progress : Progress Size) (st : State) → is_on w st ≡ true → is_on w (with_progress st name progress) ≡ true
  name_on name progress st on = is_watch.names name progress st ∙ or_right (w.of_name name) (is_on w st) on

  seen_inline : (levels : ℕ) (label : Label) (text : List ℕ) (st : State) → is_on w st ≡ false → (b : Bool) → w.of_label label ≡ b
      → Alike (wrapped alias_only label (inlined levels text), with_reach (labelled label st) 1) (item_within alias_only blocking levels (cond b (FaultItem marker) (PlaceholderItem label (Inline text))) st)
  seen_inline levels label text st off true e = inr (refl, inl (rw (is_watch.labels label st, e) refl))
  seen_inline levels label text st off false e = inl (refl, rw (is_watch.labels label st, e) off)

  seen_stored : (levels : ℕ) (label : Label) (text : List ℕ) (st : State) (inner : Reading) → SeenText levels label text (labelled label st) inner → is_on w st ≡ false
      → (a b : Bool) → w.of_label label ≡ a → w.of_name label.name ≡ b
      → Alike (enclosed alias_only label inner) (item_within alias_only blocking levels (cond (a || b) (FaultItem marker) (PlaceholderItem label (Stored text))) st)
  seen_stored levels label text st inner h off true b e f = inr (refl, inl (h.keeps (rw (is_watch.labels label st, e) refl)))
  seen_stored levels label text st inner h off false true e f = inr (refl, seen_enclosed label inner (h.cache f))
  seen_stored levels label text st inner h off false false e f = elim (h.same f (rw (is_watch.labels label st, e) off)) [
    | inl (same, still) ↦ inl (ap (enclosed alias_only label) same, still)
    | inr (ends, cache) ↦ inr (ap (wrapped alias_only label) ends, seen_enclosed label inner cache)
  ]

  -- a fault that ends an item ends the items
  ends_there : (first : Reading) (rest : State → Reading) → first.0 ≡ Err marker → (then_rest first.0 first.1 rest).0 ≡ Err marker
  ends_there first rest ends = ap (λ r. (then_rest r first.1 rest).0) ends

  seen : InductionSteps alias_only resolve definitions SeenItem SeenItems SeenText
  seen = record {
    text = λ levels text st. record { keeps = λ on. on; same = λ off. inl (refl, off) };
    fault = λ levels fault st. record { keeps = λ on. on; same = λ off. inl (refl, off) };
    inline = λ levels label text st flat. record { keeps = label_on label st; same = λ off. seen_inline levels label text st off (w.of_label label) refl };
    stored = λ levels label text st inner h. record {
      keeps = λ on. h.keeps (label_on label st on);
      same = λ off. seen_stored levels label text st inner h off (w.of_label label) (w.of_name label.name) refl refl;
    };
    none = λ levels st. record { keeps = λ on. on; same = λ off. inl (refl, off) };
    failed = λ levels item items st fault st' h.
        let rest = items_within alias_only blocking levels (map blocked items) in
        record {
          keeps = h.keeps;
          same = λ off. elim (h.same off) [
            | inl (same, still) ↦ inl (ap (λ (x : Reading). then_rest x.0 x.1 rest) same, still)
            | inr (ends, cache) ↦ inr (ends_there (item_within alias_only blocking levels (blocked item) (piece_read st)) rest ends, cache)
          ];
        };
    more = λ levels item items st a st' later h l.
        let rest = items_within alias_only blocking levels (map blocked items) in
        record {
          keeps = λ on. l.keeps (h.keeps on);
          same = λ off. elim (h.same off) [
            | inl (same, still) ↦
                let here = ap (λ (x : Reading). then_rest x.0 x.1 rest) same in
                elim (l.same still) [
                  | inl (same', still') ↦ inl (here ∙ ap (after_size a) same', still')
                  | inr (ends, cache) ↦ inr (ap (λ (x : Reading). x.0) here ∙ ap (both (Ok a)) ends, seen_after_size a later cache)
                ]
            | inr (ends, inl on) ↦ inr (ends_there (item_within alias_only blocking levels (blocked item) (piece_read st)) rest ends, inl (l.keeps on))
            | inr (ends, inr (fault, name, e, watched)) ↦ cc
          ];
        };
    deep = λ label text st. record { keeps = λ on. on; same = λ apart off. inl (refl, off); cache = λ watched. inr (TooDeep, label.name, refl, watched) };
    known = λ levels label text st progress r stored is e. record {
      keeps = λ on. on;
      same = λ apart off.
          let fresh = finish label.name (suc levels) (items_within alias_only blocking levels (blocking text) (with_progress st label.name InProgress)) in
          inl (ap (λ m. by_progress m (suc levels) st fresh) is ∙ ap (λ o. by_result o (with_reach st (reach_within progress (suc levels))) fresh) e, off);
      cache = λ watched. inl (is_watch.known label.name progress st watched is);
    };
    fresh = λ levels label text st answer stored unread h.
        let name = label.name in
        let progress = last_progress (suc levels) answer in
        let other = items_within alias_only blocking levels (blocking text) (with_progress st name InProgress) in
        let read = unread_progress (suc levels) st (finish name (suc levels) other) (st.by_name name) unread ∙ sym (finish_sets_progress name (suc levels) other) in
        record {
          keeps = λ on. name_on name progress answer.1 (h.keeps (name_on name InProgress st on));
          same = λ apart off. elim (h.same (rw (is_watch.names name InProgress st, apart) off)) [
            | inl (same, still) ↦ inl (read ∙ ap (with_last_progress name (suc levels)) same, rw (is_watch.names name progress answer.1, apart) still)
            | inr (ends, inl on) ↦ inr (ap (λ (x : Reading). x.0) read ∙ ends, inl (name_on name progress answer.1 on))
            | inr (ends, inr failed) ↦ inr (ap (λ (x : Reading). x.0) read ∙ ends, inr failed)
          ];
          cache = λ watched. inl (rw (is_watch.names name progress answer.1, watched) refl);
        };
  }

  seen_pattern : IsSound resolve definitions → (levels : ℕ) (pattern : List ℕ) → Alike (measure_within levels alias_only resolve pattern) (measure_within levels alias_only blocking pattern)
  unfolding measure_within
  seen_pattern sound levels pattern = (reads alias_only resolve definitions SeenItem SeenItems SeenText seen sound levels pattern nothing_measured).same is_watch.starts_off

-- ---- the first fault

abbrev pub fault_of : Result Size Fault → Option Fault
fault_of (Ok size) = None
fault_of (Err fault) = Some fault

-- the first fault of the tree is that of the result
pub tree_fault : (alias_only : Bool) (resolve : List ℕ → List Item) (definitions : Definitions) → IsSound resolve definitions → (levels : ℕ) (pattern : List ℕ)
    → first_structural (tree_within levels resolve pattern) ≡ fault_of (measure_within levels alias_only resolve pattern).0
tree_fault alias_only resolve definitions sound levels pattern = go (measure_within levels alias_only resolve pattern).0 refl
  where
    go : (r : Result Size Fault) → (measure_within levels alias_only resolve pattern).0 ≡ r → first_structural (tree_within levels resolve pattern) ≡ fault_of r
    go (Ok size) e = (tree_sizes alias_only resolve levels pattern).clean size (sym (measure_right alias_only resolve definitions sound levels pattern) ∙ e)
    go (Err fault) e = (tree_sizes alias_only resolve levels pattern).on_err fault (sym (measure_right alias_only resolve definitions sound levels pattern) ∙ e)

-- a fault that isn't this one
another : (o : Option Fault) → (marker : Fault) × (o ≡ Some marker → ⊥)
another None = (TooDeep, λ e. cc)
another (Some (MalformedPiece fault)) = (TooDeep, λ e. cc)
another (Some (Missing name)) = (TooDeep, λ e. cc)
another (Some TooDeep) = (Missing [], λ e. cc)

progress_stops : (marker : Fault) (o : Option Fault) (b : Bool) → (o ≡ Some marker → ⊥) → cond b (Some marker) o ≡ Some marker → b ≡ true
progress_stops marker o true apart e = refl
progress_stops marker o false apart e = absurd (apart e)

-- THE THEOREM: the flag is set only if the tree reaches what is watched for. If the tree reaches it, the flag
-- is set, or a name that is watched for could not be opened.
pub record Watched (w : Watch) (answer : Reading) (tree : List Event) : Type 0 where
  pub only : is_on w answer.1 ≡ true → w.has (reached tree) ≡ true
  pub every : w.has (reached tree) ≡ true → IsSeen w answer

pub watched : (w : Watch) → IsWatch w → (alias_only : Bool) (resolve : List ℕ → List Item) (definitions : Definitions) → IsSound resolve definitions → (levels : ℕ) (pattern : List ℕ)
    → Watched w (measure_within levels alias_only resolve pattern) (tree_within levels resolve pattern)
watched w is_watch alias_only resolve definitions sound levels pattern =
    let tree = tree_within levels resolve pattern in
    let (marker, apart) = another (first_structural tree) in
    let blocks = block.blocking (is_watched w) marker resolve in
    let stops = block.tree_stops (is_watched w) marker resolve levels pattern ∙ is_watch.stops marker tree in
    let fault = tree_fault alias_only resolve definitions sound levels pattern in
    let fault' = tree_fault alias_only blocks definitions (block.sound_blocking (is_watched w) marker resolve definitions sound) levels pattern in
    elim (seen_pattern w is_watch marker alias_only resolve definitions sound levels pattern) [
      | inl (same, off) ↦
          let one = fault ∙ ap (λ (x : Reading). fault_of x.0) (sym same) ∙ sym fault' ∙ stops in
          record {
            only = λ on. absurd (true≢false (sym on ∙ off));
            every = λ there. absurd (apart (one ∙ ap (λ b. cond b (Some marker) (first_structural tree)) there));
          }
      | inr (ends, cache) ↦ record { only = λ on. progress_stops marker (first_structural tree) _ apart (sym stops ∙ fault' ∙ ap fault_of ends); every = λ there. cache }
    ]

-- ---- an alias that ends in a number in brackets

abbrev aliases : Watch
aliases = record { of_label = λ label. ends_in_number label.alias; of_name = λ name. false; flag = λ by_name has_numbered. has_numbered; has = has_numbered_alias }

aliases_stop : (marker : Fault) (es : List Event) → stop (is_watched aliases) marker es ≡ cond (has_numbered_alias (reached es)) (Some marker) (first_structural es)
aliases_stop marker [] = refl
aliases_stop marker (Text text ∷ es) = aliases_stop marker es
aliases_stop marker (Close ∷ es) = aliases_stop marker es
aliases_stop marker (FaultEvent fault ∷ es) = refl
aliases_stop marker (Open label (Inline text) ∷ es) =
    let rest = aliases_stop marker es in
    elim (ends_in_number label.alias) as (λ b. cond b (Some marker) (stop (is_watched aliases) marker es) ≡ cond (cond b true (has_numbered_alias (reached es))) (Some marker) (first_structural es)) [ true ↦ refl | false ↦ rest ]
aliases_stop marker (Open label (Stored text) ∷ es) =
    let rest = aliases_stop marker es in
    elim (ends_in_number label.alias) as (λ b. cond (b || false) (Some marker) (stop (is_watched aliases) marker es) ≡ cond (cond b true (has_numbered_alias (reached es))) (Some marker) (first_structural es)) [ true ↦ refl | false ↦ rest ]

-- ---- a name

abbrev names : List ℕ → Watch
names name = record { of_label = λ label. false; of_name = λ other. bytes_eq other name; flag = λ by_name has_numbered. is_some (by_name name); has = reaches name }

names_stop : (name : List ℕ) (marker : Fault) (es : List Event) → stop (is_watched (names name)) marker es ≡ cond (reaches name (reached es)) (Some marker) (first_structural es)
names_stop name marker [] = refl
names_stop name marker (Text text ∷ es) = names_stop name marker es
names_stop name marker (Close ∷ es) = names_stop name marker es
names_stop name marker (FaultEvent fault ∷ es) = refl
names_stop name marker (Open label (Inline text) ∷ es) = names_stop name marker es
names_stop name marker (Open label (Stored text) ∷ es) =
    let rest = names_stop name marker es in
    elim (bytes_eq label.name name) as (λ b. cond b (Some marker) (stop (is_watched (names name)) marker es) ≡ cond (cond b true (reaches name (reached es))) (Some marker) (first_structural es)) [ true ↦ refl | false ↦ rest ]

module _ (alias_only : Bool) (resolve : List ℕ → List Item) (definitions : Definitions) (sound : IsSound resolve definitions) where
  -- whether an alias was read that ends in a number in brackets is whether the tree reaches one
  pub measure_numbers : (levels : ℕ) (pattern : List ℕ) → (measure_within levels alias_only resolve pattern).1.has_numbered ≡ has_numbered_alias (reached (tree_within levels resolve pattern))
  measure_numbers levels pattern =
      let is_watch : IsWatch aliases = record { starts_off = refl; labels = λ label st. refl; names = λ name progress st. refl; known = λ name progress st never is. cc; stops = aliases_stop } in
      let h = watched aliases is_watch alias_only resolve definitions sound levels pattern in
      alike _ _ h.only (λ there. elim (h.every there) [ inl on ↦ on | inr (fault, name, e, never) ↦ cc ])

  -- A name is read only if the tree reaches it. If the tree reaches it, it was read, or it could not be opened.
  pub measure_meets : (levels : ℕ) (pattern name : List ℕ) → Watched (names name) (measure_within levels alias_only resolve pattern) (tree_within levels resolve pattern)
  measure_meets levels pattern name =
      let is_watch : IsWatch (names name) = record {
        starts_off = refl;
        labels = λ label st. refl;
        names = λ other progress st. started_with_progress st other progress name;
        known = λ other progress st same is. subst (λ n. is_started st n ≡ true) ((bytes_eq-Decides other name).0 same) (rw is refl);
        stops = names_stop name;
      } in
      watched (names name) is_watch alias_only resolve definitions sound levels pattern
