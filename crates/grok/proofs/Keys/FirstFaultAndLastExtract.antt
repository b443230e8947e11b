-- The first fault of a tree is one that no other fault comes before, and the extract of a key is that of the last
-- placeholder with this key and an extract.
use Rattle.std.proofs.Common.{◌≡◌, ℕ, ◌+◌, Bool, true, false, cond, List, [], ◌∷◌, ◌++◌, Option, Some, None, refl, sym, ◌∙◌, ap, subst, ◌⊎◌, inl, inr, ◌&&◌, append-nil, append_assoc, arith}
use Rattle.std.specs.Prelude.{not}
use Rattle.std.specs.Str.{bytes_eq}
use Rattle.std.proofs.lemmas.Bool.{true≢false, cases_Bool}
use Rattle.grok.specs.Tree.{Label, is_absent, Event, Text, Open, Close, FaultEvent}
use Rattle.grok.specs.KeyNumbers.{numbers_after}
use Rattle.grok.specs.Keys.{is_capturing, capturing, base_key, numbered, how_often, key_after, keys_after, keys, is_among, TreeFault, Structural, Clash, extract_after}
use Rattle.grok.specs.steps.CapturedSoFar.{onto, taken_of, in_order, numbers_in_order, extract_before, faults, after}
use Rattle.grok.specs.FirstFault.{IsFaultAfter, StructuralEvent, ClashingOpen, HasNoFault, HasFirstFault, FirstFaultIsFirst, HasNoExtract, HasLastExtract, ExtractIsLast}
use Rattle.grok.proofs.Keys.KeysAreDistinct.{how_often_more}
use Rattle.grok.proofs.Texts.EqualBytesAreSameText.{same_text, text_same}

-- ---- one list of events after the other

abbrev pub or_then : Option TreeFault → Option TreeFault → Option TreeFault
or_then None o = o
or_then (Some tree_fault) o = Some tree_fault

pub onto-append : (before xs ys : List Label) → onto before (xs ++ ys) ≡ onto (onto before xs) ys
onto-append before [] ys = refl
onto-append before (x ∷ xs) ys = onto-append (x ∷ before) xs ys

pub in_order_onto : (before labels : List Label) → in_order (onto before labels) ≡ in_order before ++ keys_after before labels
in_order_onto before [] = sym (append-nil (in_order before))
in_order_onto before (label ∷ labels) = in_order_onto (label ∷ before) labels ∙ append_assoc (in_order before) (key_after before label ∷ []) (keys_after (label ∷ before) labels)

pub numbers_in_order_onto : (before labels : List Label) → numbers_in_order (onto before labels) ≡ numbers_in_order before ++ numbers_after before labels
numbers_in_order_onto before [] = sym (append-nil (numbers_in_order before))
numbers_in_order_onto before (label ∷ labels) = numbers_in_order_onto (label ∷ before) labels ∙ append_assoc (numbers_in_order before) (how_often before (base_key label) ∷ []) (numbers_after (label ∷ before) labels)

pub extract_onto : (before labels : List Label) (key : List ℕ) → extract_before (onto before labels) key ≡ extract_after before key labels (extract_before before key)
extract_onto before [] key = refl
extract_onto before (label ∷ labels) key = extract_onto (label ∷ before) labels key

module _ (alias_only : Bool) where
  pub capturing-append : (xs ys : List Event) → capturing alias_only (xs ++ ys) ≡ capturing alias_only xs ++ capturing alias_only ys
  capturing-append [] ys = refl
  capturing-append (Text text ∷ xs) ys = capturing-append xs ys
  capturing-append (Close ∷ xs) ys = capturing-append xs ys
  capturing-append (FaultEvent fault ∷ xs) ys = capturing-append xs ys
  capturing-append (Open label meaning ∷ xs) ys =
      let more = capturing-append xs ys in
      elim (is_capturing alias_only label) as (λ b. cond b (label ∷ capturing alias_only (xs ++ ys)) (capturing alias_only (xs ++ ys)) ≡ cond b (label ∷ capturing alias_only xs) (capturing alias_only xs) ++ capturing alias_only ys) [
        | true ↦ ap (λ ls. label ∷ ls) more
        | false ↦ more
      ]

  pub after-append : (before : List Label) (xs ys : List Event) → after alias_only before (xs ++ ys) ≡ after alias_only (after alias_only before xs) ys
  after-append before xs ys = ap (onto before) (capturing-append xs ys) ∙ onto-append before (capturing alias_only xs) (capturing alias_only ys)

  pub faults-append : (before : List Label) (xs ys : List Event) → faults alias_only before (xs ++ ys) ≡ or_then (faults alias_only before xs) (faults alias_only (after alias_only before xs) ys)
  faults-append before [] ys = refl
  faults-append before (Text text ∷ xs) ys = faults-append before xs ys
  faults-append before (Close ∷ xs) ys = faults-append before xs ys
  faults-append before (FaultEvent fault ∷ xs) ys = refl
  faults-append before (Open label meaning ∷ xs) ys =
      let key = key_after before label in
      let one = faults-append (label ∷ before) xs ys in
      let none = faults-append before xs ys in
      elim (is_capturing alias_only label) as (λ b. cond b (cond (is_among key (taken_of before)) (Some (Clash key)) (faults alias_only (label ∷ before) (xs ++ ys))) (faults alias_only before (xs ++ ys))
      ≡ or_then (cond b (cond (is_among key (taken_of before)) (Some (Clash key)) (faults alias_only (label ∷ before) xs)) (faults alias_only before xs))
      (faults alias_only (onto before (cond b (label ∷ capturing alias_only xs) (capturing alias_only xs))) ys)) [
        | true ↦ elim (is_among key (taken_of before)) as (λ b. cond b (Some (Clash key)) (faults alias_only (label ∷ before) (xs ++ ys))
            ≡ or_then (cond b (Some (Clash key)) (faults alias_only (label ∷ before) xs)) (faults alias_only (after alias_only (label ∷ before) xs) ys)) [ true ↦ refl | false ↦ one ]
        | false ↦ none
      ]

-- ---- the nearest first, or in the order of reading

pub how_often_onto : (before labels : List Label) (key : List ℕ) → how_often (onto before labels) key ≡ how_often before key + how_often labels key
how_often_onto before [] key = omega arith
how_often_onto before (label ∷ labels) key = omega (arith, how_often_onto (label ∷ before) labels key, how_often_more label before key, how_often_more label labels key)

pub key_onto : (labels : List Label) (label : Label) → key_after (onto [] labels) label ≡ key_after labels label
key_onto labels label = ap (numbered (base_key label)) (let e : how_often (onto [] labels) (base_key label) ≡ how_often labels (base_key label) = omega (arith, how_often_onto [] labels (base_key label)) in e)

among-append : (key : List ℕ) (xs ys : List (List ℕ)) → is_among key (xs ++ ys) ≡ cond (is_among key xs) true (is_among key ys)
among-append key [] ys = refl
among-append key (x ∷ xs) ys = elim (bytes_eq x key) as (λ b. cond b true (is_among key (xs ++ ys)) ≡ cond (cond b true (is_among key xs)) true (is_among key ys)) [ true ↦ refl | false ↦ among-append key xs ys ]

turned : (a b : Bool) → cond a true b ≡ cond b true a
turned true true = refl
turned true false = refl
turned false true = refl
turned false false = refl

plain_cond : (a : Bool) → cond a true false ≡ a
plain_cond true = refl
plain_cond false = refl

among_in_order : (key : List ℕ) (before : List Label) → is_among key (in_order before) ≡ is_among key (taken_of before)
among_in_order key [] = refl
among_in_order key (label ∷ before) =
    among-append key (in_order before) (key_after before label ∷ [])
    ∙ (ap (λ b. cond b true (is_among key (key_after before label ∷ []))) (among_in_order key before)
    ∙ (ap (λ b. cond (is_among key (taken_of before)) true b) (plain_cond (bytes_eq (key_after before label) key))
    ∙ turned (is_among key (taken_of before)) (bytes_eq (key_after before label) key)))

pub among_keys : (key : List ℕ) (labels : List Label) → is_among key (keys labels) ≡ is_among key (taken_of (onto [] labels))
among_keys key labels = ap (is_among key) (sym (in_order_onto [] labels)) ∙ among_in_order key (onto [] labels)

-- ---- the first fault

some_or_none : (o : Option TreeFault) → (o ≡ None) ⊎ ((tree_fault : TreeFault) × (o ≡ Some tree_fault))
some_or_none None = inl refl
some_or_none (Some tree_fault) = inr (tree_fault, refl)

module _ (alias_only : Bool) where
  -- the fault of one event after others, if it is one
  one : List Event → Event → Option TreeFault
  one before event = faults alias_only (after alias_only [] before) (event ∷ [])

  fault_of : (before : List Event) (event : Event) (tree_fault : TreeFault) → IsFaultAfter alias_only before event tree_fault → one before event ≡ Some tree_fault
  unfolding one
  fault_of before (FaultEvent fault) (Structural fault') (StructuralEvent f) = refl
  fault_of before event tree_fault (ClashingOpen label meaning is clash) =
      let opens = capturing alias_only before in
      let key = key_onto opens label in
      let there : is_among (key_after (onto [] opens) label) (taken_of (onto [] opens)) ≡ true = ap (λ k. is_among k (taken_of (onto [] opens))) key ∙ (sym (among_keys (key_after opens label) opens) ∙ clash) in
      rw (is, there) (ap (λ k. Some (Clash k)) key)

  is_fault_after : (before : List Event) (event : Event) (tree_fault : TreeFault) → one before event ≡ Some tree_fault → IsFaultAfter alias_only before event tree_fault
  unfolding one
  is_fault_after before (Text text) tree_fault e = cc
  is_fault_after before Close tree_fault e = cc
  is_fault_after before (FaultEvent fault) tree_fault e = let same : Structural fault ≡ tree_fault = cc in subst (IsFaultAfter alias_only before (FaultEvent fault)) same (StructuralEvent fault)
  is_fault_after before (Open label meaning) tree_fault e =
      let opens = capturing alias_only before in
      let key = key_after (onto [] opens) label in
      let same = key_onto opens label in
      elim (cases_Bool (is_capturing alias_only label)) [
        | inr not_capturing ↦ let bad : None ≡ Some tree_fault = sym (ap (λ b. cond b (cond (is_among key (taken_of (onto [] opens))) (Some (Clash key)) None) None) not_capturing) ∙ e in cc
        | inl is ↦
            let e₁ : cond (is_among key (taken_of (onto [] opens))) (Some (Clash key)) None ≡ Some tree_fault = sym (ap (λ b. cond b (cond (is_among key (taken_of (onto [] opens))) (Some (Clash key)) None) None) is) ∙ e in
            elim (cases_Bool (is_among key (taken_of (onto [] opens)))) [
              | inr free ↦ let bad : None ≡ Some tree_fault = sym (ap (λ b. cond b (Some (Clash key)) None) free) ∙ e₁ in cc
              | inl there ↦
                  let named : Some (Clash key) ≡ Some tree_fault = sym (ap (λ b. cond b (Some (Clash key)) None) there) ∙ e₁ in
                  let finding_is : Clash (key_after opens label) ≡ tree_fault = let n : Clash key ≡ tree_fault = cc in sym (ap Clash same) ∙ n in
                  subst (IsFaultAfter alias_only before (Open label meaning)) finding_is
                  (ClashingOpen label meaning is (among_keys (key_after opens label) opens ∙ (ap (λ k. is_among k (taken_of (onto [] opens))) (sym same) ∙ there)))
            ]
      ]

  -- a fault at the cut, and none before it, is the first
  at_cut : (before : List Event) (event : Event) (rest : List Event) (tree_fault : TreeFault) → faults alias_only [] before ≡ None → IsFaultAfter alias_only before event tree_fault → faults alias_only [] (before ++ event ∷ rest) ≡ Some tree_fault
  unfolding one
  at_cut before event rest tree_fault none is =
      faults-append alias_only [] before (event ∷ rest)
      ∙ (ap (λ o. or_then o (faults alias_only (after alias_only [] before) (event ∷ rest))) none
      ∙ (faults-append alias_only (after alias_only [] before) (event ∷ []) rest
      ∙ ap (λ o. or_then o (faults alias_only (after alias_only (after alias_only [] before) (event ∷ [])) rest)) (fault_of before event tree_fault is)))

  both_none : (o p : Option TreeFault) → or_then o p ≡ None → (o ≡ None) × (p ≡ None)
  both_none None p e = (refl, e)
  both_none (Some f) p e = cc

  clean_none : (tree : List Event) → faults alias_only [] tree ≡ None → HasNoFault alias_only tree
  clean_none tree e before event rest tree_fault cut is =
      let whole : faults alias_only [] (before ++ event ∷ rest) ≡ None = ap (faults alias_only []) (sym cut) ∙ e in
      let first = both_none (faults alias_only [] before) (faults alias_only (after alias_only [] before) (event ∷ rest)) (sym (faults-append alias_only [] before (event ∷ rest)) ∙ whole) in
      let bad : Some tree_fault ≡ None = sym (at_cut before event rest tree_fault first.0 is) ∙ whole in
      cc

  -- the cut at the first fault of the rest, if there is none in what was read
  record Cut (read rest : List Event) (tree_fault : TreeFault) : Type 0 where
    before : List Event
    event : Event
    after_it : List Event
    cut : rest ≡ before ++ event ∷ after_it
    none : faults alias_only [] (read ++ before) ≡ None
    is : one (read ++ before) event ≡ Some tree_fault

  cut_of : (read rest : List Event) (tree_fault : TreeFault) → faults alias_only [] read ≡ None → faults alias_only (after alias_only [] read) rest ≡ Some tree_fault → Cut read rest tree_fault
  unfolding one
  cut_of read [] tree_fault none e = cc
  cut_of read (event ∷ rest) tree_fault none e =
      let split : or_then (faults alias_only (after alias_only [] read) (event ∷ [])) (faults alias_only (after alias_only (after alias_only [] read) (event ∷ [])) rest) ≡ Some tree_fault = sym (faults-append alias_only (after alias_only [] read) (event ∷ []) rest) ∙ e in
      elim (some_or_none (faults alias_only (after alias_only [] read) (event ∷ []))) [
        | inr (here, is) ↦
            let same : Some here ≡ Some tree_fault = sym (ap (λ o. or_then o (faults alias_only (after alias_only (after alias_only [] read) (event ∷ [])) rest)) is) ∙ split in
            record {
              before = [];
              event = event;
              after_it = rest;
              cut = refl;
              none = ap (faults alias_only []) (append-nil read) ∙ none;
              is = ap (λ es. faults alias_only (after alias_only [] es) (event ∷ [])) (append-nil read) ∙ (is ∙ same);
            }
        | inl free ↦
            let more : read ++ event ∷ rest ≡ (read ++ event ∷ []) ++ rest = sym (append_assoc read (event ∷ []) rest) in
            let later = cut_of (read ++ event ∷ []) rest tree_fault
            (faults-append alias_only [] read (event ∷ []) ∙ (ap (λ o. or_then o (faults alias_only (after alias_only [] read) (event ∷ []))) none ∙ free))
            (ap (λ ls. faults alias_only ls rest) (after-append alias_only [] read (event ∷ [])) ∙ (sym (ap (λ o. or_then o (faults alias_only (after alias_only (after alias_only [] read) (event ∷ [])) rest)) free) ∙ split)) in
            record {
              before = event ∷ later.before;
              event = later.event;
              after_it = later.after_it;
              cut = ap (λ es. event ∷ es) later.cut;
              none = ap (faults alias_only []) (sym (append_assoc read (event ∷ []) later.before)) ∙ later.none;
              is = ap (λ es. one es later.event) (sym (append_assoc read (event ∷ []) later.before)) ∙ later.is;
            }
      ]

  first_found : (tree : List Event) (tree_fault : TreeFault) → faults alias_only [] tree ≡ Some tree_fault → HasFirstFault alias_only tree tree_fault
  first_found tree tree_fault e =
      let at = cut_of [] tree tree_fault refl e in
      record { before = at.before; event = at.event; after = at.after_it; cut = at.cut; none = clean_none at.before at.none; is = is_fault_after at.before at.event tree_fault at.is }

  none_clean : (tree : List Event) → HasNoFault alias_only tree → faults alias_only [] tree ≡ None
  none_clean tree none = elim (some_or_none (faults alias_only [] tree)) [
    | inl e ↦ e
    | inr (tree_fault, e) ↦ let at = first_found tree tree_fault e in absurd (none at.before at.event at.after tree_fault at.cut at.is)
  ]

pub first_fault_is_first : FirstFaultIsFirst
first_fault_is_first alias_only tree = record {
  some = first_found alias_only tree;
  only = λ tree_fault at. ap (faults alias_only []) at.cut ∙ at_cut alias_only at.before at.event at.after tree_fault (none_clean alias_only at.before at.none) at.is;
  none = clean_none alias_only tree;
  clean = none_clean alias_only tree;
}

-- ---- extracts

extract_append : (before xs ys : List Label) (key : List ℕ) (found : Option (List ℕ)) → extract_after before key (xs ++ ys) found ≡ extract_after (onto before xs) key ys (extract_after before key xs found)
extract_append before [] ys key found = refl
extract_append before (x ∷ xs) ys key found = extract_append (x ∷ before) xs ys key (cond (bytes_eq (key_after before x) key && not (is_absent x.extract)) (Some x.extract) found)

onto_one : (earlier : List Label) (label : Label) → onto [] (earlier ++ label ∷ []) ≡ label ∷ onto [] earlier
onto_one earlier label = onto-append [] earlier (label ∷ [])

-- the placeholder has the key and an extract
gives : List Label → List ℕ → Label → Bool
gives before key label = bytes_eq (key_after before label) key && not (is_absent label.extract)

absent_then : (a b : Bool) → (a ≡ true → b ≡ true) → (a && not b) ≡ false
absent_then true b h = rw (h refl) refl
absent_then false b h = refl

gives_none : (earlier : List Label) (key : List ℕ) (label : Label) → (key_after earlier label ≡ key → is_absent label.extract ≡ true) → gives (onto [] earlier) key label ≡ false
unfolding gives
gives_none earlier key label h = absent_then (bytes_eq (key_after (onto [] earlier) label) key) (is_absent label.extract)
    (λ same. h (sym (key_onto earlier label) ∙ same_text (key_after (onto [] earlier) label) key same))

later_ones : (earlier : List Label) (label : Label) (labels : List Label) (key : List ℕ) → HasNoExtract earlier (label ∷ labels) key → HasNoExtract (earlier ++ label ∷ []) labels key
later_ones earlier label labels key none before l rest cut is =
    none (label ∷ before) l rest (ap (λ ls. label ∷ ls) cut) (ap (λ ls. key_after ls l) (sym (append_assoc earlier (label ∷ []) before)) ∙ is)

none_found : (earlier labels : List Label) (key : List ℕ) (found : Option (List ℕ)) → HasNoExtract earlier labels key → extract_after (onto [] earlier) key labels found ≡ found
unfolding gives
none_found earlier [] key found none = refl
none_found earlier (label ∷ labels) key found none =
    let flag : gives (onto [] earlier) key label ≡ false = gives_none earlier key label (λ is. none [] label labels refl (ap (λ ls. key_after ls label) (append-nil earlier) ∙ is)) in
    ap (λ b. extract_after (label ∷ onto [] earlier) key labels (cond b (Some label.extract) found)) flag
    ∙ (ap (λ ls. extract_after ls key labels found) (sym (onto_one earlier label)) ∙ none_found (earlier ++ label ∷ []) labels key found (later_ones earlier label labels key none))

-- the last placeholder after others that has the key and an extract
record LastExtractAfter (earlier labels : List Label) (key : List ℕ) : Type 0 where
  before : List Label
  label : Label
  rest : List Label
  cut : labels ≡ before ++ label ∷ rest
  has_key : key_after (earlier ++ before) label ≡ key
  some : is_absent label.extract ≡ false
  last : HasNoExtract ((earlier ++ before) ++ label ∷ []) rest key

nothing_cut : {X : Type 0} (before : List X) (x : X) (rest : List X) → [] ≡ before ++ x ∷ rest → ⊥
nothing_cut [] x rest e = cc
nothing_cut (y ∷ before) x rest e = cc

none_here : (earlier : List Label) (label : Label) (labels : List Label) (key : List ℕ) → (key_after earlier label ≡ key → is_absent label.extract ≡ true) → HasNoExtract (earlier ++ label ∷ []) labels key → HasNoExtract earlier (label ∷ labels) key
none_here earlier label labels key here none [] l rest cut is =
    let same : label ≡ l = cc in
    subst (λ (k : Label). is_absent k.extract ≡ true) same (here (ap (key_after earlier) same ∙ (ap (λ ls. key_after ls l) (sym (append-nil earlier)) ∙ is)))
none_here earlier label labels key here none (x ∷ before) l rest cut is =
    let same : label ≡ x = cc in
    let tails : labels ≡ before ++ l ∷ rest = cc in
    none before l rest tails (ap (λ ls. key_after ls l) (append_assoc earlier (label ∷ []) before ∙ ap (λ y. earlier ++ y ∷ before) same) ∙ is)

last_or_none : (earlier labels : List Label) (key : List ℕ) → HasNoExtract earlier labels key ⊎ LastExtractAfter earlier labels key
unfolding gives
last_or_none earlier [] key = inl (λ before label rest cut is. absurd (nothing_cut before label rest cut))
last_or_none earlier (label ∷ labels) key = elim (last_or_none (earlier ++ label ∷ []) labels key) [
  | inr later ↦ inr (record {
    before = label ∷ later.before;
    label = later.label;
    rest = later.rest;
    cut = ap (λ ls. label ∷ ls) later.cut;
    has_key = ap (λ ls. key_after ls later.label) (sym (append_assoc earlier (label ∷ []) later.before)) ∙ later.has_key;
    some = later.some;
    last = subst (λ ls. HasNoExtract (ls ++ later.label ∷ []) later.rest key) (append_assoc earlier (label ∷ []) later.before) later.last;
  })
  | inl none ↦ elim (cases_Bool (bytes_eq (key_after earlier label) key)) [
    | inr other ↦ inl (none_here earlier label labels key (λ is. absurd (true≢false (sym (text_same (key_after earlier label) key is) ∙ other))) none)
    | inl same ↦ elim (cases_Bool (is_absent label.extract)) [
      | inl absent ↦ inl (none_here earlier label labels key (λ is. absent) none)
      | inr some ↦ inr (record {
        before = [];
        label = label;
        rest = labels;
        cut = refl;
        has_key = ap (λ ls. key_after ls label) (append-nil earlier) ∙ same_text (key_after earlier label) key same;
        some = some;
        last = subst (λ ls. HasNoExtract (ls ++ label ∷ []) labels key) (sym (append-nil earlier)) none;
      })
    ]
  ]
]

last_found : (labels : List Label) (key extract : List ℕ) → HasLastExtract labels key extract → extract_after [] key labels None ≡ Some extract
unfolding gives
last_found labels key extract at =
    let found = extract_after [] key at.before None in
    let flag : gives (onto [] at.before) key at.label ≡ true =
    rw (text_same (key_after (onto [] at.before) at.label) key (key_onto at.before at.label ∙ at.has_key), ap is_absent at.has_extract, at.some) refl in
    ap (λ ls. extract_after [] key ls None) at.cut
    ∙ (extract_append [] at.before (at.label ∷ at.after) key None
    ∙ (ap (λ b. extract_after (at.label ∷ onto [] at.before) key at.after (cond b (Some at.label.extract) found)) flag
    ∙ (ap (λ ls. extract_after ls key at.after (Some at.label.extract)) (sym (onto_one at.before at.label))
    ∙ (none_found (at.before ++ at.label ∷ []) at.after key (Some at.label.extract) at.last
    ∙ ap Some at.has_extract))))

from_last : (labels : List Label) (key : List ℕ) → (at : LastExtractAfter [] labels key) → HasLastExtract labels key at.label.extract
from_last labels key at = record { before = at.before; label = at.label; after = at.rest; cut = at.cut; has_key = at.has_key; has_extract = refl; some = at.some; last = at.last }

pub extract_is_last : ExtractIsLast
extract_is_last alias_only tree key =
    let labels = capturing alias_only tree in
    record {
      some = λ extract e. elim (last_or_none [] labels key) [
        | inl none ↦ let bad : None ≡ Some extract = sym (none_found [] labels key None none) ∙ e in cc
        | inr at ↦
            let found : Some at.label.extract ≡ Some extract = sym (last_found labels key at.label.extract (from_last labels key at)) ∙ e in
            let same : at.label.extract ≡ extract = cc in
            subst (HasLastExtract labels key) same (from_last labels key at)
      ];
      only = last_found labels key;
      none = λ e. elim (last_or_none [] labels key) [
        | inl none ↦ none
        | inr at ↦ let bad : Some at.label.extract ≡ None = sym (last_found labels key at.label.extract (from_last labels key at)) ∙ e in cc
      ];
      nothing = none_found [] labels key None;
    }
