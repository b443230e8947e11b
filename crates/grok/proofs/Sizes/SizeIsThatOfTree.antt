-- The size that is added up item by item is that of the tree's events.
use Rattle.std.proofs.Common.{◌≡◌, ℕ, zero, suc, ◌+◌, ◌-◌, max, Bool, true, false, cond, List, [], ◌∷◌, ◌++◌, length, Option, Result, Some, None, Ok, Err, refl, sym, ap, subst, ◌⊎◌, inl, inr, arith, append_assoc, append-nil, length-append}
use Rattle.std.specs.Prelude.{codes, if◌then◌else◌}
use Rattle.grok.specs.Tree.{Fault, TooDeep, Label, Meaning, meaning_text, Item, TextItem, FaultItem, PlaceholderItem, Event, Text, Open, Close, FaultEvent, events, inside, tree_within, first_structural}
use Rattle.grok.specs.Keys.{is_capturing, capturing}
use Rattle.grok.specs.Numeral.{numeral}
use Rattle.grok.specs.GeneratedNames.{named_head, unnamed_head, bracket_bytes}
use Rattle.grok.specs.Expanded.{text_after, groups, nesting_after, nesting, expanded}
use Rattle.grok.specs.steps.Sizes.{Size, no_size, size_of_bytes, plus, both, bracketed, wrapped, size_of, sizes, size_or_fault, digits_from, length_of}
use Rattle.grok.proofs.Sizes.SizesAdd.{both_ok, wrapped_ok}

abbrev pub or_else : Option Fault → Option Fault → Option Fault
or_else None o = o
or_else (Some f) o = Some f

pub first_structural-append : (xs ys : List Event) → first_structural (xs ++ ys) ≡ or_else (first_structural xs) (first_structural ys)
first_structural-append [] ys = refl
first_structural-append (Text text ∷ xs) ys = first_structural-append xs ys
first_structural-append (Open label meaning ∷ xs) ys = first_structural-append xs ys
first_structural-append (Close ∷ xs) ys = first_structural-append xs ys
first_structural-append (FaultEvent fault ∷ xs) ys = refl

module _ (alias_only : Bool) where
  pub capturing-append : (xs ys : List Event) → capturing alias_only (xs ++ ys) ≡ capturing alias_only xs ++ capturing alias_only ys
  capturing-append [] ys = refl
  capturing-append (Text text ∷ xs) ys = capturing-append xs ys
  capturing-append (Close ∷ xs) ys = capturing-append xs ys
  capturing-append (FaultEvent fault ∷ xs) ys = capturing-append xs ys
  capturing-append (Open label meaning ∷ xs) ys =
      let more = capturing-append xs ys in
      elim (is_capturing alias_only label) as (λ b. cond b (label ∷ capturing alias_only (xs ++ ys)) (capturing alias_only (xs ++ ys)) ≡ cond b (label ∷ capturing alias_only xs) (capturing alias_only xs) ++ capturing alias_only ys) [
        | true ↦ ap (λ ls. label ∷ ls) more
        | false ↦ more
      ]

  -- the bytes without the numbers of groups
  abbrev pub plain : List Event → ℕ
  plain [] = 0
  plain (Text text ∷ events) = length text + plain events
  plain (Close ∷ events) = 1 + plain events
  plain (FaultEvent fault ∷ events) = plain events
  plain (Open label meaning ∷ events) = (if is_capturing alias_only label then 7 else 3) + plain events

  pub plain-append : (xs ys : List Event) → plain (xs ++ ys) ≡ plain xs + plain ys
  plain-append [] ys = omega arith
  plain-append (Text text ∷ xs) ys = omega (arith, plain-append xs ys)
  plain-append (Close ∷ xs) ys = omega (arith, plain-append xs ys)
  plain-append (FaultEvent fault ∷ xs) ys = plain-append xs ys
  plain-append (Open label meaning ∷ xs) ys = omega (arith, plain-append xs ys)

  -- the length as a sum
  pub length-text_after : (count : ℕ) (es : List Event) → length (text_after alias_only count es) ≡ plain es + digits_from count (length (capturing alias_only es))
  length-text_after count [] = refl
  length-text_after count (Text text ∷ es) = omega (arith, length-append text (text_after alias_only count es), length-text_after count es)
  length-text_after count (Close ∷ es) = omega (arith, length-text_after count es)
  length-text_after count (FaultEvent fault ∷ es) = length-text_after count es
  length-text_after count (Open label meaning ∷ es) =
      let rest = text_after alias_only (suc count) es in
      let here = length-text_after (suc count) es in
      let other = length-text_after count es in
      elim (is_capturing alias_only label) as (λ b. length (cond b (named_head count ++ text_after alias_only (suc count) es) (unnamed_head ++ text_after alias_only count es))
      ≡ cond b 7 3 + plain es + digits_from count (length (cond b (label ∷ capturing alias_only es) (capturing alias_only es)))) [
        | true ↦ omega (arith, length-append (numeral count ++ codes ">") rest, length-append (numeral count) (codes ">"), here)
        | false ↦ omega (arith, other)
      ]

  -- what clean events have in bytes, groups and nesting
  pub record Agrees (es : List Event) (z : Size) : Type 0 where
    pub clean : first_structural es ≡ None
    pub bytes : plain es ≡ z.bytes
    pub groups : length (capturing alias_only es) ≡ z.groups
    pub height : (depth : ℕ) (rest : List Event) → max depth (nesting_after depth (es ++ rest)) ≡ max (depth + z.height) (nesting_after depth rest)

  pub agrees_none : Agrees [] no_size
  agrees_none = record { clean = refl; bytes = refl; groups = refl; height = λ depth rest. omega arith }

  pub agrees_plus : (xs ys : List Event) (a b : Size) → Agrees xs a → Agrees ys b → Agrees (xs ++ ys) (plus a b)
  agrees_plus xs ys a b p q = record {
    clean = rw (first_structural-append xs ys, p.clean) q.clean;
    bytes = omega (arith, plain-append xs ys, p.bytes, q.bytes);
    groups = rw capturing-append (omega (arith, length-append (capturing alias_only xs) (capturing alias_only ys), p.groups, q.groups));
    height = λ depth rest. rw append_assoc (omega (arith, p.height depth (ys ++ rest), q.height depth rest));
  }

  pub agrees_bytes : (text : List ℕ) → Agrees (Text text ∷ []) (size_of_bytes text)
  agrees_bytes text = record { clean = refl; bytes = omega arith; groups = refl; height = λ depth rest. omega arith }

  pub agrees_brackets : (label : Label) (meaning : Meaning) (es : List Event) (z : Size) → Agrees es z → Agrees (Open label meaning ∷ es ++ Close ∷ []) (bracketed alias_only label z)
  agrees_brackets label meaning es z p =
      let more : length (capturing alias_only (es ++ Close ∷ [])) ≡ z.groups = rw capturing-append (omega (arith, length-append (capturing alias_only es) [], p.groups)) in
      record {
        clean = rw (first_structural-append es (Close ∷ []), p.clean) refl;
        bytes =
            let longer = plain-append es (Close ∷ []) in
            let same = p.bytes in
            elim (is_capturing alias_only label) as (λ b. cond b 7 3 + plain (es ++ Close ∷ []) ≡ bracket_bytes b + z.bytes) [ true ↦ omega arith | false ↦ omega arith ];
        groups =
            elim (is_capturing alias_only label) as (λ b. length (cond b (label ∷ capturing alias_only (es ++ Close ∷ [])) (capturing alias_only (es ++ Close ∷ []))) ≡ cond b 1 0 + z.groups) [ true ↦ omega arith | false ↦ omega arith ];
        height = λ depth rest.
            let back : suc depth - 1 ≡ depth = omega arith in
            let down : nesting_after (suc depth) (Close ∷ rest) ≡ nesting_after depth rest = ap (λ d. nesting_after d rest) back in
            let step : max depth (max (suc depth) (nesting_after (suc depth) (es ++ (Close ∷ rest)))) ≡ max (depth + suc z.height) (nesting_after depth rest) =
            omega (arith, p.height (suc depth) (Close ∷ rest)) in
            subst (λ xs. max depth (max (suc depth) (nesting_after (suc depth) xs)) ≡ max (depth + suc z.height) (nesting_after depth rest)) (sym (append_assoc es (Close ∷ []) rest)) step;
      }

  -- how the events inside definitions correspond to their sizes
  pub record Fits (f : List ℕ → Result Size Fault) (inner : List ℕ → List Event) : Type 0 where
    pub on_ok : (t : List ℕ) (z : Size) → f t ≡ Ok z → (es : List Event) × (inner t ≡ es ++ Close ∷ []) × Agrees es z
    pub on_err : (t : List ℕ) (fault : Fault) → f t ≡ Err fault → first_structural (inner t) ≡ Some fault

  -- the events of items with a size agree with it
  pub agrees_items : (f : List ℕ → Result Size Fault) (inner : List ℕ → List Event) → Fits f inner
      → (items : List Item) (z : Size) → sizes alias_only f items ≡ Ok z → Agrees (events inner items) z
  agrees_items f inner h [] z e = let same : no_size ≡ z = cc in subst (Agrees []) same agrees_none
  agrees_items f inner h (TextItem text ∷ items) z e =
      let (a, b, p, q, r) = both_ok (size_of alias_only f (TextItem text)) (sizes alias_only f items) z e in
      let same : size_of_bytes text ≡ a = cc in
      subst (Agrees (Text text ∷ events inner items)) (sym r)
      (agrees_plus (Text text ∷ []) (events inner items) a b (subst (Agrees (Text text ∷ [])) same (agrees_bytes text)) (agrees_items f inner h items b q))
  agrees_items f inner h (FaultItem fault ∷ items) z e = cc
  agrees_items f inner h (PlaceholderItem label meaning ∷ items) z e =
      let (a, b, p, q, r) = both_ok (wrapped alias_only label (f (meaning_text meaning))) (sizes alias_only f items) z e in
      let (one, k, l) = wrapped_ok alias_only label (f (meaning_text meaning)) a p in
      let (es, is, agrees) = h.on_ok (meaning_text meaning) one k in
      let around : Agrees (Open label meaning ∷ es ++ Close ∷ []) a = subst (Agrees (Open label meaning ∷ es ++ Close ∷ [])) (sym l) (agrees_brackets label meaning es one agrees) in
      let around' : Agrees (Open label meaning ∷ inner (meaning_text meaning)) a = subst (λ xs. Agrees (Open label meaning ∷ xs) a) (sym is) around in
      subst (Agrees (Open label meaning ∷ inner (meaning_text meaning) ++ events inner items)) (sym r)
      (agrees_plus (Open label meaning ∷ inner (meaning_text meaning)) (events inner items) a b around' (agrees_items f inner h items b q))

  -- two in a row with a fault
  pub both_err : (r s : Result Size Fault) (fault : Fault) → both r s ≡ Err fault → (r ≡ Err fault) ⊎ ((a : Size) × (r ≡ Ok a) × (s ≡ Err fault))
  both_err (Err f) s fault e = inl e
  both_err (Ok a) (Err f) fault e = inr (a, refl, e)
  both_err (Ok a) (Ok b) fault e = cc

  pub wrapped_err : (label : Label) (r : Result Size Fault) (fault : Fault) → wrapped alias_only label r ≡ Err fault → r ≡ Err fault
  wrapped_err label (Err f) fault e = e
  wrapped_err label (Ok a) fault e = cc

  pub fault_items : (f : List ℕ → Result Size Fault) (inner : List ℕ → List Event) → Fits f inner
      → (items : List Item) (fault : Fault) → sizes alias_only f items ≡ Err fault → first_structural (events inner items) ≡ Some fault
  fault_items f inner h [] fault e = cc
  fault_items f inner h (TextItem text ∷ items) fault e = elim (both_err (size_of alias_only f (TextItem text)) (sizes alias_only f items) fault e) [
    | inl here ↦ cc
    | inr (a, p, q) ↦ fault_items f inner h items fault q
  ]
  fault_items f inner h (FaultItem fault' ∷ items) fault e = cc
  fault_items f inner h (PlaceholderItem label meaning ∷ items) fault e = elim (both_err (wrapped alias_only label (f (meaning_text meaning))) (sizes alias_only f items) fault e) [
    | inl here ↦ rw (first_structural-append (inner (meaning_text meaning)) (events inner items), h.on_err (meaning_text meaning) fault (wrapped_err label (f (meaning_text meaning)) fault here)) refl
    | inr (a, p, q) ↦
        let (one, k, l) = wrapped_ok alias_only label (f (meaning_text meaning)) a p in
        let (es, is, agrees) = h.on_ok (meaning_text meaning) one k in
        rw (first_structural-append (inner (meaning_text meaning)) (events inner items), is, first_structural-append es (Close ∷ []), agrees.clean) (fault_items f inner h items fault q)
  ]

  pub fits_inside : (resolve : List ℕ → List Item) (levels : ℕ) → Fits (size_or_fault alias_only resolve levels) (inside resolve levels)
  fits_inside resolve zero = record { on_ok = λ t z e. cc; on_err = λ t fault e. let same : TooDeep ≡ fault = cc in ap Some same }
  fits_inside resolve (suc levels) = record {
    on_ok = λ t z e. (events (inside resolve levels) (resolve t), refl, agrees_items (size_or_fault alias_only resolve levels) (inside resolve levels) (fits_inside resolve levels) (resolve t) z e);
    on_err = λ t fault e. rw (first_structural-append (events (inside resolve levels) (resolve t)) (Close ∷ []), fault_items (size_or_fault alias_only resolve levels) (inside resolve levels) (fits_inside resolve levels) (resolve t) fault e) refl;
  }

  -- THE TREE'S FIRST FAULT AND SIZE
  pub record IsTreeOf (es : List Event) (r : Result Size Fault) : Type 0 where
    pub on_err : (fault : Fault) → r ≡ Err fault → first_structural es ≡ Some fault
    pub clean : (z : Size) → r ≡ Ok z → first_structural es ≡ None
    pub length : (z : Size) → r ≡ Ok z → length (expanded alias_only es) ≡ length_of z
    pub groups : (z : Size) → r ≡ Ok z → groups alias_only es ≡ z.groups
    pub nesting : (z : Size) → r ≡ Ok z → nesting es ≡ z.height

  pub tree_sizes : (resolve : List ℕ → List Item) (levels : ℕ) (pattern : List ℕ) → IsTreeOf (tree_within levels resolve pattern) (sizes alias_only (size_or_fault alias_only resolve levels) (resolve pattern))
  tree_sizes resolve levels pattern =
      let items = resolve pattern in
      let f = size_or_fault alias_only resolve levels in
      let es = events (inside resolve levels) items in
      let all : (z : Size) → sizes alias_only f items ≡ Ok z → Agrees es z = agrees_items f (inside resolve levels) (fits_inside resolve levels) items in
      record {
        on_err = fault_items f (inside resolve levels) (fits_inside resolve levels) items;
        clean = λ z e. (all z e).clean;
        length = λ z e. let a = all z e in rw (length-text_after 0 es, a.bytes, a.groups) refl;
        groups = λ z e. (all z e).groups;
        nesting = λ z e. let a = all z e in subst (λ xs. nesting_after 0 xs ≡ z.height) (append-nil es) (omega (arith, a.height 0 []));
      }
