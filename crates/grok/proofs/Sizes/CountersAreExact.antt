-- The counters of pieces and ends are at most the number of those that are reached, and exactly that number for
-- a clean tree.
use Rattle.std.proofs.Common.{◌≡◌, ℕ, suc, ◌+◌, ◌≤◌, Bool, true, false, cond, ◌||◌, List, [], ◌∷◌, length, Option, Some, None, Ok, Err, refl, sym, ◌∙◌, ap, subst, inl, inr, arith}
use Rattle.std.proofs.lemmas.Bool.{true≢false, false_from_ne_true}
use Rattle.std.proofs.lemmas.Slice.Eq.{bytes_eq-Decides}
use Rattle.std.specs.Prelude.{is_some}
use Rattle.std.specs.Str.{bytes_eq}
use Rattle.grok.specs.Tree.{Definitions, Item}
use Rattle.grok.specs.steps.Sizes.{Size}
use Rattle.grok.specs.steps.MeasuredOnce.{Progress, InProgress, HasSize, HasFault, NeedsMoreThan, State, with_progress, Reading, nothing_measured, measure_within}
use Rattle.grok.specs.Measured.{weighed}
use Rattle.grok.proofs.Sizes.TextsWithoutPlaceholders.{IsSound}
use Rattle.grok.proofs.Sizes.SizesAdd.{both_ok, wrapped_ok}
use Rattle.grok.proofs.Sizes.ReadingInduction.{last_progress, IsUnread, InductionSteps, reads}
use Rattle.grok.proofs.Sizes.RememberingChangesNothing.{progress_cases}

-- the text of a name in a table of names and texts
abbrev pub found : List ℕ → List (List ℕ × List ℕ) → Option (List ℕ)
found name [] = None
found name (entry ∷ entries) = cond (bytes_eq entry.0 name) (Some entry.1) (found name entries)

-- each name occurs once
abbrev pub AreApart : List (List ℕ × List ℕ) → Type 0
AreApart [] = Unit {0}
AreApart (entry ∷ entries) = (found entry.0 entries ≡ None) × AreApart entries

-- the table has these definitions
pub record IsTable (definitions : Definitions) (entries : List (List ℕ × List ℕ)) : Type 0 where
  pub apart : AreApart entries
  pub same : (name : List ℕ) → found name entries ≡ definitions name

module _ (weight : List ℕ → ℕ) where
  -- the total weight depends only on which names are chosen
  pub weighed_same : (p q : List ℕ → Bool) (entries : List (List ℕ × List ℕ)) → ((name : List ℕ) → p name ≡ q name) → weighed weight p entries ≡ weighed weight q entries
  weighed_same p q entries h = λ i. weighed weight (λ name. h name i) entries

  pub weighed_le : (p q : List ℕ → Bool) (entries : List (List ℕ × List ℕ)) → ((name : List ℕ) → p name ≡ true → q name ≡ true) → weighed weight p entries ≤ weighed weight q entries
  weighed_le p q [] h = omega arith
  weighed_le p q (entry ∷ entries) h = go (p entry.0) refl (weighed_le p q entries h)
    where
      go : (b : Bool) → p entry.0 ≡ b → weighed weight p entries ≤ weighed weight q entries
          → cond (p entry.0) (weight entry.1) 0 + weighed weight p entries ≤ cond (q entry.0) (weight entry.1) 0 + weighed weight q entries
      go true e le = rw (e, h entry.0 e) (omega arith)
      go false e le = rw e (omega arith)

  -- the weights if the two choices differ only in this name
  abbrev share : (List ℕ → Bool) → List ℕ → Option (List ℕ) → ℕ
  share p name None = 0
  share p name (Some text) = cond (p name) (weight text) 0

  weighed_but : (p q : List ℕ → Bool) (name : List ℕ) (entries : List (List ℕ × List ℕ)) → AreApart entries → ((other : List ℕ) → (name ≡ other → ⊥) → p other ≡ q other)
      → weighed weight q entries + share p name (found name entries) ≡ weighed weight p entries + share q name (found name entries)
  weighed_but p q name [] apart h = refl
  weighed_but p q name (entry ∷ entries) apart h = go (bytes_eq entry.0 name) refl (weighed_but p q name entries apart.1 h)
    where
      go : (b : Bool) → bytes_eq entry.0 name ≡ b → weighed weight q entries + share p name (found name entries) ≡ weighed weight p entries + share q name (found name entries)
          → cond (q entry.0) (weight entry.1) 0 + weighed weight q entries + share p name (cond b (Some entry.1) (found name entries))
          ≡ cond (p entry.0) (weight entry.1) 0 + weighed weight p entries + share q name (cond b (Some entry.1) (found name entries))
      go true e ih =
          let same : entry.0 ≡ name = (bytes_eq-Decides entry.0 name).0 e in
          let gone : found name entries ≡ None = subst (λ n. found n entries ≡ None) same apart.0 in
          let rest = rw gone at ih in
          rw same (omega (arith, rest))
      go false e ih = rw (h entry.0 (λ same. true≢false (sym ((bytes_eq-Decides entry.0 name).1 (sym same)) ∙ e))) (omega (arith, ih))

  -- one more name
  pub weighed_more : (p q : List ℕ → Bool) (name text : List ℕ) (entries : List (List ℕ × List ℕ)) → AreApart entries → found name entries ≡ Some text
      → p name ≡ false → q name ≡ true → ((other : List ℕ) → (name ≡ other → ⊥) → p other ≡ q other)
      → weighed weight q entries ≡ weighed weight p entries + weight text
  weighed_more p q name text entries apart is off on h =
      let before : share p name (found name entries) ≡ 0 = ap (share p name) is ∙ ap (λ b. cond b (weight text) 0) off in
      let after : share q name (found name entries) ≡ weight text = ap (share q name) is ∙ ap (λ b. cond b (weight text) 0) on in
      omega (arith, before, after, weighed_but p q name entries apart h)

weighed_none : (weight : List ℕ → ℕ) (entries : List (List ℕ × List ℕ)) → weighed weight (λ name. false) entries ≡ 0
weighed_none weight [] = refl
weighed_none weight (entry ∷ entries) = omega (arith, weighed_none weight entries)

-- the definition was used
abbrev pub is_started : State → List ℕ → Bool
is_started st name = is_some (st.by_name name)

pub started_with_progress : (st : State) (name : List ℕ) (progress : Progress Size) (other : List ℕ) → is_started (with_progress st name progress) other ≡ (bytes_eq name other || is_started st other)
started_with_progress st name progress other = elim (bytes_eq name other) as (λ b. is_some (cond b (Some progress) (st.by_name other)) ≡ (b || is_some (st.by_name other))) [ true ↦ refl | false ↦ refl ]

-- no text was nested too deeply
abbrev IsShallow : State → Type 0
IsShallow st = (name : List ℕ) (levels : ℕ) → st.by_name name ≡ Some (NeedsMoreThan levels) → ⊥

shallow_with_progress : (st : State) (name : List ℕ) (progress : Progress Size) → ((levels : ℕ) → progress ≡ NeedsMoreThan levels → ⊥) → IsShallow st → IsShallow (with_progress st name progress)
shallow_with_progress st name progress other_mark shallow other levels is = elim (progress_cases st.by_name name progress other) [
  | inl (same, it) ↦ let deep : Some progress ≡ Some (NeedsMoreThan levels) = sym it ∙ is in other_mark levels (let m : progress ≡ NeedsMoreThan levels = cc in m)
  | inr (apart, old) ↦ shallow other levels (sym old ∙ is)
]

-- a definition that has to be measured was not used before
unread_new : (st : State) (name : List ℕ) (levels : ℕ) → IsShallow st → IsUnread st name levels → (progress : Option (Progress Size)) → st.by_name name ≡ progress → is_some progress ≡ false
unread_new st name levels shallow unread None is = refl
unread_new st name levels shallow unread (Some InProgress) is = let bad = unread InProgress is in cc
unread_new st name levels shallow unread (Some (HasSize size)) is = let bad = unread (HasSize size) is in cc
unread_new st name levels shallow unread (Some (HasFault fault height)) is = let bad = unread (HasFault fault height) is in cc
unread_new st name levels shallow unread (Some (NeedsMoreThan most)) is = absurd (shallow name most is)

last_shallow : (levels : ℕ) (answer : Reading) (size : Size) → answer.0 ≡ Ok size → (deep : ℕ) → last_progress levels answer ≡ NeedsMoreThan deep → ⊥
last_shallow levels (Ok done, st) size e deep is = cc
last_shallow levels (Err fault, st) size e deep is = cc

-- a counter of pieces and ends, and what it counts for items that are read to their end
pub record IsCounter (number : ℕ → ℕ → ℕ) (own : List Item → ℕ) : Type 0 where
  pub piece : (looks ends : ℕ) (item : Item) (items : List Item) → number (looks + 1) ends + own items ≡ number looks ends + own (item ∷ items)
  pub end : (looks ends : ℕ) → number looks (ends + 1) ≡ number looks ends + own []

module _ (alias_only : Bool) (resolve : List ℕ → List Item) (definitions : Definitions) (entries : List (List ℕ × List ℕ)) (table : IsTable definitions entries) (number : ℕ → ℕ → ℕ) (own : List Item → ℕ) (counter : IsCounter number own) where
  abbrev weight : List ℕ → ℕ
  weight text = own (resolve text)

  abbrev count : State → ℕ
  count st = number st.looks st.ends

  -- the total weight of the definitions that were used
  abbrev cache : State → ℕ
  cache st = weighed weight (is_started st) entries

  -- What was counted from one state to the next, without the definitions that were used in between. After a
  -- fault it may be less.
  record Counted (st : State) (answer : Reading) (much : ℕ) : Type 0 where
    left : ℕ
    adds : count answer.1 + cache st + left ≡ count st + much + cache answer.1
    all : (size : Size) → answer.0 ≡ Ok size → left ≡ 0
    keeps : (name : List ℕ) → is_started st name ≡ true → is_started answer.1 name ≡ true
    shallow : (size : Size) → answer.0 ≡ Ok size → IsShallow answer.1

  seen_more : (st : State) (name text : List ℕ) → definitions name ≡ Some text → is_started st name ≡ false → cache (with_progress st name InProgress) ≡ cache st + weight text
  seen_more st name text stored fresh =
      weighed_more weight (is_started st) (is_started (with_progress st name InProgress)) name text entries table.apart (table.same name ∙ stored) fresh
      (rw ((bytes_eq-Decides name name).1 refl) refl)
      (λ other apart. rw (started_with_progress st name InProgress other, false_from_ne_true (bytes_eq name other) (λ t. apart ((bytes_eq-Decides name other).0 t))) refl)

  -- a definition that was used stays so
  seen_still : (st : State) (name : List ℕ) (progress : Progress Size) → is_started st name ≡ true → cache (with_progress st name progress) ≡ cache st
  seen_still st name progress on = weighed_same weight (is_started (with_progress st name progress)) (is_started st) entries (λ other. started_with_progress st name progress other ∙ go other (bytes_eq name other) refl)
    where
      go : (other : List ℕ) (b : Bool) → bytes_eq name other ≡ b → (b || is_started st other) ≡ is_started st other
      go other true e = sym on ∙ ap (is_started st) ((bytes_eq-Decides name other).0 e)
      go other false e = refl

  progress_keeps : (st : State) (name : List ℕ) (progress : Progress Size) (other : List ℕ) → is_started st other ≡ true → is_started (with_progress st name progress) other ≡ true
  progress_keeps st name progress other on = started_with_progress st name progress other ∙ elim (bytes_eq name other) as (λ b. (b || is_started st other) ≡ true) [ true ↦ refl | false ↦ on ]

  -- THE STEPS, each where no text was too deep
  counts : InductionSteps alias_only resolve definitions (λ levels item st answer. IsShallow st → Counted st answer 0) (λ levels items st answer. IsShallow st → Counted st answer (own items)) (λ levels label text st answer. IsShallow st → Counted st answer 0)
  counts = record {
    text = λ levels text st shallow. record { left = 0; adds = omega arith; all = λ size e. refl; keeps = λ name on. on; shallow = λ size e. shallow };
    fault = λ levels fault st shallow. record { left = 0; adds = omega arith; all = λ size e. refl; keeps = λ name on. on; shallow = λ size e. shallow };
    inline = λ levels label text st flat shallow. record { left = 0; adds = omega arith; all = λ size e. refl; keeps = λ name on. on; shallow = λ size e. shallow };
    stored = λ levels label text st inner h shallow.
        let c = h shallow in
        record {
          left = c.left;
          adds = c.adds;
          all = λ size e. let (a, p, l) = wrapped_ok alias_only label inner.0 size e in c.all a p;
          keeps = c.keeps;
          shallow = λ size e. let (a, p, l) = wrapped_ok alias_only label inner.0 size e in c.shallow a p;
        };
    none = λ levels st shallow. record { left = 0; adds = omega (arith, counter.end st.looks st.ends); all = λ size e. refl; keeps = λ name on. on; shallow = λ size e. shallow };
    failed = λ levels item items st fault st' h shallow.
        let c = h shallow in
        record { left = c.left + own items; adds = omega (arith, c.adds, counter.piece st.looks st.ends item items); all = λ size e. cc; keeps = c.keeps; shallow = c.shallow };
    more = λ levels item items st a st' later h rest shallow.
        let c = h shallow in
        let l = rest (c.shallow a refl) in
        record {
          left = l.left;
          adds = omega (arith, c.adds, c.all a refl, l.adds, counter.piece st.looks st.ends item items);
          all = λ size e. let (x, b, p, q, is) = both_ok (Ok a) later.0 size e in l.all b q;
          keeps = λ name on. l.keeps name (c.keeps name on);
          shallow = λ size e. let (x, b, p, q, is) = both_ok (Ok a) later.0 size e in l.shallow b q;
        };
    deep = λ label text st shallow. record { left = 0; adds = omega arith; all = λ size e. refl; keeps = λ name on. on; shallow = λ size e. shallow };
    known = λ levels label text st progress r stored is e shallow. record { left = 0; adds = omega arith; all = λ size e. refl; keeps = λ name on. on; shallow = λ size e. shallow };
    fresh = λ levels label text st answer stored unread h shallow.
        let c = h (shallow_with_progress st label.name InProgress (λ levels e. cc) shallow) in
        let progress = last_progress (suc levels) answer in
        let new = seen_more st label.name text stored (unread_new st label.name (suc levels) shallow unread (st.by_name label.name) refl) in
        let still = seen_still answer.1 label.name progress (c.keeps label.name (rw ((bytes_eq-Decides label.name label.name).1 refl) refl)) in
        record {
          left = c.left;
          adds = omega (arith, c.adds, new, still);
          all = c.all;
          keeps = λ name on. progress_keeps answer.1 label.name progress name (c.keeps name (progress_keeps st label.name InProgress name on));
          shallow = λ size e. shallow_with_progress answer.1 label.name progress (last_shallow (suc levels) answer size e) (c.shallow size e);
        };
  }

  -- THE COUNT for a pattern: its own weight and that of each definition that is used, or less after a fault
  pub record CountsUses (pattern : List ℕ) (answer : Reading) : Type 0 where
    pub left : ℕ
    pub adds : count answer.1 + left ≡ number 0 0 + weight pattern + cache answer.1
    pub all : (size : Size) → answer.0 ≡ Ok size → left ≡ 0

  pub measure_counts : IsSound resolve definitions → (levels : ℕ) (pattern : List ℕ) → CountsUses pattern (measure_within levels alias_only resolve pattern)
  unfolding measure_within
  measure_counts sound levels pattern =
      let c = reads alias_only resolve definitions (λ levels item st answer. IsShallow st → Counted st answer 0) (λ levels items st answer. IsShallow st → Counted st answer (own items)) (λ levels label text st answer. IsShallow st → Counted st answer 0) counts sound levels pattern nothing_measured (λ name levels is. cc) in
      record { left = c.left; adds = omega (arith, c.adds, weighed_none weight entries); all = c.all }

-- the counter of pieces, and that of ends
pub counts_pieces : IsCounter (λ looks ends. looks) (λ items. length items)
counts_pieces = record { piece = λ looks ends item items. omega arith; end = λ looks ends. omega arith }

pub counts_ends : IsCounter (λ looks ends. ends) (λ items. 1)
counts_ends = record { piece = λ looks ends item items. refl; end = λ looks ends. refl }
