-- Measuring each definition once gives the same size or fault as measuring it wherever it is used.
use Rattle.std.proofs.Common.{◌≡◌, ℕ, suc, max, ◌+◌, Bool, true, false, cond, List, [], ◌∷◌, Option, Result, Some, Ok, Err, refl, sym, ◌∙◌, ap, subst, ◌⊎◌, inl, inr, arith, add-one}
use Rattle.std.proofs.lemmas.Bool.{true≢false}
use Rattle.std.proofs.lemmas.Slice.Eq.{bytes_eq-Decides}
use Rattle.std.specs.Str.{bytes_eq}
use Rattle.grok.specs.Tree.{Definitions, Fault, MalformedPiece, Missing, TooDeep, Label, Stored, Item, TextItem, FaultItem, PlaceholderItem}
use Rattle.grok.specs.steps.Sizes.{Size, no_size, size_of_bytes, both, wrapped, sizes, size_or_fault}
use Rattle.grok.specs.steps.MeasuredOnce.{Progress, InProgress, known_result, State, updated, with_progress, Reading, nothing_measured, items_within, measure_within}
use Rattle.grok.specs.steps.MeasureCache.{HoldsOfText}
use Rattle.grok.proofs.Sizes.SizesByLevels.{Settles, settles_always, settles_wrapped, settles_first, deep_after_size, settles_after_size, settles_text, settles_inline, high, of_text, of_item, of_items, circle, last_says, known_settles}
use Rattle.grok.proofs.Sizes.TextsWithoutPlaceholders.{IsSound, flat_measured}
use Rattle.grok.proofs.Sizes.ReadingInduction.{last_progress, InductionSteps, reads}

-- after a progress is set for one name, each name has that progress or the one it had
pub progress_cases : (by_name : List ℕ → Option (Progress Size)) (name : List ℕ) (progress : Progress Size) (other : List ℕ)
    → ((name ≡ other) × (updated by_name name progress other ≡ Some progress)) ⊎ ((name ≡ other → ⊥) × (updated by_name name progress other ≡ by_name other))
progress_cases by_name name progress other = go (bytes_eq name other) refl
  where
    go : (b : Bool) → bytes_eq name other ≡ b → ((name ≡ other) × (cond (bytes_eq name other) (Some progress) (by_name other) ≡ Some progress)) ⊎ ((name ≡ other → ⊥) × (cond (bytes_eq name other) (Some progress) (by_name other) ≡ by_name other))
    go true e = inl ((bytes_eq-Decides name other).0 e, rw e refl)
    go false e = inr (λ same. true≢false (sym ((bytes_eq-Decides name other).1 same) ∙ e), rw e refl)

-- the nesting of a text with brackets around it, or after other text
high_wrapped : (alias_only : Bool) (label : Label) (r : Result Size Fault) (reach : ℕ) → suc (high r reach) ≡ high (wrapped alias_only label r) (suc reach)
high_wrapped alias_only label (Ok a) reach = refl
high_wrapped alias_only label (Err f) reach = refl

high_both : (a : Size) (r : Result Size Fault) (reach : ℕ) → max a.height (high r reach) ≡ high (both (Ok a) r) (max a.height reach)
high_both a (Ok b) reach = refl
high_both a (Err f) reach = refl

last_not_begun : (levels : ℕ) (answer : Reading) → last_progress levels answer ≡ InProgress → ⊥
last_not_begun levels (Ok size, st) e = cc
last_not_begun levels (Err (MalformedPiece f), st) e = cc
last_not_begun levels (Err (Missing name), st) e = cc
last_not_begun levels (Err TooDeep, st) e = cc

module _ (alias_only : Bool) (resolve : List ℕ → List Item) (definitions : Definitions) where
  -- a name's definition is in progress, or what is remembered of it is right
  abbrev pub IsHonest : State → Type 0
  IsHonest st = (name : List ℕ) (progress : Progress Size) (text : List ℕ) → st.by_name name ≡ Some progress → definitions name ≡ Some text → (progress ≡ InProgress) ⊎ HoldsOfText alias_only resolve progress text

  -- if what is read here is nested too deeply, then so is each definition that is in progress around it
  abbrev pub OpenLead : State → (ℕ → Result Size Fault) → Type 0
  OpenLead st here = (name text : List ℕ) → st.by_name name ≡ Some InProgress → definitions name ≡ Some text
      → (down : ℕ) × ((levels : ℕ) → here levels ≡ Err TooDeep → of_text alias_only resolve text (levels + suc down) ≡ Err TooDeep)

  -- a result is right for what was read with these levels left, and with more levels if it isn't too deep
  pub record Outcome (levels : ℕ) (st : State) (answer : Reading) (size : ℕ → Result Size Fault) (least : ℕ) : Type 0 where
    pub same : answer.0 ≡ size levels
    pub settles : (answer.0 ≡ Err TooDeep → ⊥) → Settles size least answer.0
    pub honest : IsHonest answer.1
    pub opens : (name : List ℕ) → answer.1.by_name name ≡ Some InProgress → st.by_name name ≡ Some InProgress

  -- the same for a part of what is read, if the whole is nested too deeply whenever the part is
  pub lead_through : (st : State) (outer inner : ℕ → Result Size Fault) → ((levels : ℕ) → inner levels ≡ Err TooDeep → outer levels ≡ Err TooDeep) → OpenLead st outer → OpenLead st inner
  lead_through st outer inner h lead name text cache stored = let (down, far) = lead name text cache stored in (down, λ levels deep. far levels (h levels deep))

  -- a name's definition is entered
  lead_open : (st : State) (name text : List ℕ) → definitions name ≡ Some text → OpenLead st (of_text alias_only resolve text) → OpenLead (with_progress st name InProgress) (of_items alias_only resolve (resolve text))
  lead_open st name text stored lead other text' is stored' = elim (progress_cases st.by_name name InProgress other) [
    | inl (same, progress) ↦
        let here : definitions name ≡ definitions other = ap definitions same in
        let one : text ≡ text' = cc in
        (0, λ levels deep. rw (← one, add-one) deep)
    | inr (apart, old) ↦
        let (down, far) = lead other text' (sym old ∙ is) stored' in
        (suc down, λ levels deep. let there : suc levels + suc down ≡ levels + suc (suc down) = omega arith in subst (λ n. size_or_fault alias_only resolve n text' ≡ Err TooDeep) there (far (suc levels) deep))
  ]

  -- the progress that is set for a name is right for its definition
  correct_with_progress : (st : State) (name text : List ℕ) (progress : Progress Size) → definitions name ≡ Some text → (progress ≡ InProgress) ⊎ HoldsOfText alias_only resolve progress text → IsHonest st
      → IsHonest (with_progress st name progress)
  correct_with_progress st name text progress stored says honest other progress' text' is stored' = elim (progress_cases st.by_name name progress other) [
    | inl (same, it) ↦
        let here : definitions name ≡ definitions other = ap definitions same in
        let one : text ≡ text' = cc in
        let two : Some progress ≡ Some progress' = sym it ∙ is in
        let two' : progress ≡ progress' = cc in
        subst (λ t. (progress' ≡ InProgress) ⊎ HoldsOfText alias_only resolve progress' t) one (subst (λ m. (m ≡ InProgress) ⊎ HoldsOfText alias_only resolve m text) two' says)
    | inr (apart, old) ↦ honest other progress' text' (sym old ∙ is) stored'
  ]

  -- a definition that was measured is no longer in progress
  ended_opens : (st st' : State) (name : List ℕ) (progress : Progress Size) → (progress ≡ InProgress → ⊥) → ((other : List ℕ) → st'.by_name other ≡ Some InProgress → (with_progress st name InProgress).by_name other ≡ Some InProgress)
      → (other : List ℕ) → (with_progress st' name progress).by_name other ≡ Some InProgress → st.by_name other ≡ Some InProgress
  ended_opens st st' name progress other_mark opens other is = elim (progress_cases st'.by_name name progress other) [
    | inl (same, it) ↦ let bad : Some progress ≡ Some InProgress = sym it ∙ is in absurd (other_mark (let m : progress ≡ InProgress = cc in m))
    | inr (apart, old) ↦ elim (progress_cases st.by_name name InProgress other) [
      | inl (same, it) ↦ absurd (apart same)
      | inr (apart', before) ↦ sym before ∙ opens other (sym old ∙ is)
    ]
  ]

  -- what is remembered of a name is right
  known_says : (levels : ℕ) (name text : List ℕ) (st : State) (progress : Progress Size) (r : Result Size Fault) → definitions name ≡ Some text → st.by_name name ≡ Some progress → known_result progress levels ≡ Some r
      → OpenLead st (of_text alias_only resolve text) → (progress ≡ InProgress) ⊎ HoldsOfText alias_only resolve progress text → r ≡ of_text alias_only resolve text levels
  known_says levels name text st progress r stored is e lead (inl begun) =
      let (down, round) = lead name text (is ∙ ap Some begun) stored in
      let deep : Some (Err TooDeep) ≡ Some r = ap (λ m. known_result m levels) (sym begun) ∙ e in
      let r_is : r ≡ Err TooDeep = cc in
      r_is ∙ sym (circle alias_only resolve down text round levels)
  known_says levels name text st progress r stored is e lead (inr says) = sym (says levels r e)

  -- THE STEPS. Before each, what is remembered is right, and the definitions in progress are those around what
  -- is read.
  abbrev pub RightItem : ℕ → Item → State → Reading → Type 0
  RightItem levels item st answer = (items : List Item) → IsHonest st → OpenLead st (of_items alias_only resolve (item ∷ items)) → Outcome levels st answer (of_item alias_only resolve item) (high answer.0 answer.1.reach)

  abbrev pub RightItems : ℕ → List Item → State → Reading → Type 0
  RightItems levels items st answer = IsHonest st → OpenLead st (of_items alias_only resolve items) → Outcome levels st answer (of_items alias_only resolve items) (high answer.0 answer.1.reach)

  abbrev pub RightText : ℕ → Label → List ℕ → State → Reading → Type 0
  RightText levels label text st answer = IsHonest st → OpenLead st (of_text alias_only resolve text) → Outcome levels st answer (of_text alias_only resolve text) (suc (high answer.0 answer.1.reach))

  pub right : InductionSteps alias_only resolve definitions RightItem RightItems RightText
  right = record {
    text = λ levels text st items honest lead. record { same = refl; settles = λ real. settles_always (of_item alias_only resolve (TextItem text)) (Ok (size_of_bytes text)) (λ n. refl); honest = honest; opens = λ name cache. cache };
    fault = λ levels fault st items honest lead. record { same = refl; settles = λ real. settles_always (of_item alias_only resolve (FaultItem fault)) (Err fault) (λ n. refl); honest = honest; opens = λ name cache. cache };
    inline = λ levels label text st flat items honest lead. record {
      same = sym (ap (wrapped alias_only label) (flat_measured alias_only resolve text flat levels));
      settles = settles_inline alias_only resolve levels label text flat;
      honest = honest;
      opens = λ name cache. cache;
    };
    stored = λ levels label text st inner h items honest lead.
        let item = PlaceholderItem label (Stored text) in
        let f = of_text alias_only resolve text in
        let least = high inner.0 inner.1.reach in
        let o = h honest (lead_through st (of_items alias_only resolve (item ∷ items)) f (λ n deep. ap (λ r. both (wrapped alias_only label r) (of_items alias_only resolve items n)) deep) lead) in
        record {
          same = ap (wrapped alias_only label) o.same;
          settles = λ real. subst (λ n. Settles (of_item alias_only resolve item) n (wrapped alias_only label inner.0)) (high_wrapped alias_only label inner.0 inner.1.reach)
              (settles_wrapped alias_only label f (suc least) inner.0 (o.settles (λ e. real (ap (wrapped alias_only label) e))));
          honest = o.honest;
          opens = o.opens;
        };
    none = λ levels st honest lead. record { same = refl; settles = λ real. settles_always (of_items alias_only resolve []) (Ok no_size) (λ n. refl); honest = honest; opens = λ name cache. cache };
    failed = λ levels item items st fault st' h honest lead.
        let o = h items honest lead in
        record {
          same = ap (λ r. both r (of_items alias_only resolve items levels)) o.same;
          settles = λ real. settles_first (of_item alias_only resolve item) (of_items alias_only resolve items) st'.reach fault (o.settles real);
          honest = o.honest;
          opens = o.opens;
        };
    more = λ levels item items st a st' later h rest honest lead.
        let f = of_item alias_only resolve item in
        let g = of_items alias_only resolve items in
        let o = h items honest lead in
        let here = o.settles (λ e. cc) in
        let lead' = lead_through st (of_items alias_only resolve (item ∷ items)) g (deep_after_size f g a.height a here) lead in
        let l = rest o.honest (λ name text cache stored. lead' name text (o.opens name cache) stored) in
        record {
          same = ap (λ r. both r later.0) o.same ∙ ap (both (f levels)) l.same;
          settles = λ real. subst (λ n. Settles (of_items alias_only resolve (item ∷ items)) n (both (Ok a) later.0)) (high_both a later.0 later.1.reach)
              (settles_after_size f g a.height (high later.0 later.1.reach) a later.0 here (l.settles (λ e. real (ap (both (Ok a)) e))));
          honest = l.honest;
          opens = λ name cache. o.opens name (l.opens name cache);
        };
    deep = λ label text st honest lead. record { same = refl; settles = λ real. absurd (real refl); honest = honest; opens = λ name cache. cache };
    known = λ levels label text st progress r stored is e honest lead.
        let says = honest label.name progress text is stored in
        record {
          same = known_says (suc levels) label.name text st progress r stored is e lead says;
          settles = known_settles alias_only resolve text progress (suc levels) r e says;
          honest = honest;
          opens = λ name cache. cache;
        };
    fresh = λ levels label text st answer stored unread h honest lead.
        let o = h (correct_with_progress st label.name text InProgress stored (inl refl) honest) (lead_open st label.name text stored lead) in
        let progress = last_progress (suc levels) answer in
        let least = high answer.0 answer.1.reach in
        let settles : (answer.0 ≡ Err TooDeep → ⊥) → Settles (of_text alias_only resolve text) (suc least) answer.0 = λ real. settles_text alias_only resolve text least answer.0 (o.settles real) in
        record {
          same = o.same;
          settles = settles;
          honest = correct_with_progress answer.1 label.name text progress stored (inr (last_says alias_only resolve (suc levels) text answer o.same settles)) o.honest;
          opens = ended_opens st answer.1 label.name progress (last_not_begun (suc levels) answer) o.opens;
        };
  }

  -- the result of measuring a pattern
  abbrev pub RightAnswer : ℕ → List ℕ → State → Type 0
  RightAnswer levels pattern st =
      let answer = items_within alias_only resolve levels (resolve pattern) st in
      Outcome levels st answer (of_items alias_only resolve (resolve pattern)) (high answer.0 answer.1.reach)

  module _ (sound : IsSound resolve definitions) where
    -- from a state in which no definition is in progress and what is remembered is right
    pub look_right : (levels : ℕ) (pattern : List ℕ) (st : State) → IsHonest st → ((name : List ℕ) → st.by_name name ≡ Some InProgress → ⊥) → RightAnswer levels pattern st
    look_right levels pattern st honest closed = reads alias_only resolve definitions RightItem RightItems RightText right sound levels pattern st honest (λ name text cache stored. absurd (closed name cache))

    -- the result is the plain size or fault
    pub measure_right : (levels : ℕ) (pattern : List ℕ) → (measure_within levels alias_only resolve pattern).0 ≡ sizes alias_only (size_or_fault alias_only resolve levels) (resolve pattern)
    unfolding measure_within
    measure_right levels pattern = (look_right levels pattern nothing_measured (λ name progress text is stored. cc) (λ name is. cc)).same
