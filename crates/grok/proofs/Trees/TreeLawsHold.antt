-- Proves the laws of trees: which definition a placeholder stands for, that unused definitions don't matter, and that
-- both modes have the same structural fault and texts that differ only in the heads of groups.
use Rattle.std.proofs.Common.{◌≡◌, ℕ, zero, suc, ◌+◌, Bool, true, false, cond, ◌&&◌, List, [], ◌∷◌, ◌++◌, length, Option, Some, None, refl, sym, ◌∙◌, ap, subst, ◌⊎◌, inl, inr, arith, ◌^◌, length-append}
use Rattle.std.specs.Prelude.{not, nat_lt, slice_get}
use Rattle.std.specs.Str.{bytes_eq}
use Rattle.std.proofs.lemmas.Bool.{true≢false}
use Rattle.std.proofs.lemmas.Slice.Eq.{bytes_eq-Decides}
use Rattle.grok_parser.specs.Pieces.{Parts, Piece, Regular, Placeholder, Malformed, pieces}
use Rattle.grok.specs.Tree.{Definitions, no_definitions, with_written, is_absent, Fault, Missing, Label, label_of, Inline, Stored, resolved, placeholder_item, items_after, items_of, Item, Event, Text, Open, Close, FaultEvent, events, inside, deepest, tree, first_structural, reached}
use Rattle.grok.specs.Measured.{Faulty, Sized, TooLong, size_within, fault_or, reaches}
use Rattle.grok.specs.Expanded.{text_after, expanded, groups, nesting}
use Rattle.grok.specs.Keys.{is_capturing}
use Rattle.grok.specs.GeneratedNames.{named_head, unnamed_head}
use Rattle.grok.specs.TreeLaws.{NoneDefines, OwnDefinitionHolds, EarlierDefinitionHolds, StoredDefinitionHolds, IsUnused, UnusedDefinitionsDoNotMatter, ModesFaultAlike, Unnamed, Numbered, IsTextOf, HeadsAloneDiffer}
use Rattle.grok.proofs.Sizes.SizeIsThatOfTree.{first_structural-append, or_else}

-- ---- what is written so far

-- the inline definitions of a text after these pieces
abbrev written_after : Definitions → List Piece → Definitions
written_after written [] = written
written_after written (Regular s e text ∷ ps) = written_after written ps
written_after written (Malformed fault ∷ ps) = written_after written ps
written_after written (Placeholder s e text parts ∷ ps) = written_after (with_written written parts) ps

-- the item of a piece after others
item_after_pieces : (stored written : Definitions) (before after : List Piece) (s e : ℕ) (pattern : List ℕ) (parts : Parts)
    → slice_get (items_after stored written (before ++ Placeholder s e pattern parts ∷ after)) (length before) ≡ Some (placeholder_item stored (written_after written before) parts)
item_after_pieces stored written [] after s e pattern parts = refl
item_after_pieces stored written (Regular a b text ∷ ps) after s e pattern parts = item_after_pieces stored written ps after s e pattern parts
item_after_pieces stored written (Malformed fault ∷ ps) after s e pattern parts = item_after_pieces stored written ps after s e pattern parts
item_after_pieces stored written (Placeholder a b text other ∷ ps) after s e pattern parts = item_after_pieces stored (with_written written other) ps after s e pattern parts

with_own : (written : Definitions) (parts : Parts) → is_absent parts.definition ≡ false → with_written written parts parts.name ≡ Some parts.definition
with_own written parts own = rw ((bytes_eq-Decides parts.name parts.name).1 refl, own) refl

without_own : (written : Definitions) (parts : Parts) (name : List ℕ) → (parts.name ≡ name → is_absent parts.definition ≡ true) → with_written written parts name ≡ written name
without_own written parts name none = go (bytes_eq parts.name name) (is_absent parts.definition) refl refl
  where
    go : (same absent : Bool) → bytes_eq parts.name name ≡ same → is_absent parts.definition ≡ absent → cond (bytes_eq parts.name name && not (is_absent parts.definition)) (Some parts.definition) (written name) ≡ written name
    go true true e a = rw (e, a) refl
    go true false e a = absurd (true≢false (sym (none ((bytes_eq-Decides parts.name name).0 e)) ∙ a))
    go false b e a = rw e refl

written_still : (written : Definitions) (ps : List Piece) (name : List ℕ) → NoneDefines name ps → written_after written ps name ≡ written name
written_still written [] name none = refl
written_still written (Regular s e text ∷ ps) name none = written_still written ps name none
written_still written (Malformed fault ∷ ps) name none = written_still written ps name none
written_still written (Placeholder s e text parts ∷ ps) name none = written_still (with_written written parts) ps name none.1 ∙ without_own written parts name none.0

written_append : (written : Definitions) (ps qs : List Piece) → written_after written (ps ++ qs) ≡ written_after (written_after written ps) qs
written_append written [] qs = refl
written_append written (Regular s e text ∷ ps) qs = written_append written ps qs
written_append written (Malformed fault ∷ ps) qs = written_append written ps qs
written_append written (Placeholder s e text parts ∷ ps) qs = written_append (with_written written parts) ps qs

pub own_definition_holds : OwnDefinitionHolds
own_definition_holds stored text before after s e pattern parts is own =
    ap (λ ps. slice_get (items_after stored no_definitions ps) (length before)) is ∙ item_after_pieces stored no_definitions before after s e pattern parts
    ∙ ap (λ o. Some (resolved (label_of parts) o (stored parts.name))) (with_own (written_after no_definitions before) parts own)

pub stored_definition_holds : StoredDefinitionHolds
stored_definition_holds stored text before after s e pattern parts is none absent =
    ap (λ ps. slice_get (items_after stored no_definitions ps) (length before)) is ∙ item_after_pieces stored no_definitions before after s e pattern parts
    ∙ ap (λ o. Some (resolved (label_of parts) o (stored parts.name))) (without_own (written_after no_definitions before) parts parts.name (λ same. absent) ∙ written_still no_definitions before parts.name none)

pub earlier_definition_holds : EarlierDefinitionHolds
earlier_definition_holds stored text before between after s e s' e' pattern pattern' earlier parts is own same none absent =
    let front : List Piece = before ++ Placeholder s e pattern earlier ∷ between in
    let written : Definitions = written_after no_definitions before in
    let position : length front ≡ suc (length before + length between) = omega (arith, length-append before (Placeholder s e pattern earlier ∷ between)) in
    let known : written_after no_definitions front parts.name ≡ Some earlier.definition =
    ap (λ w. w parts.name) (written_append no_definitions before (Placeholder s e pattern earlier ∷ between))
    ∙ written_still (with_written written earlier) between parts.name none ∙ ap (with_written written earlier) (sym same) ∙ with_own written earlier own in
    ap (λ n. slice_get (items_of stored text) n) (sym position)
    ∙ ap (λ ps. slice_get (items_after stored no_definitions ps) (length front)) is ∙ item_after_pieces stored no_definitions front after s' e' pattern' parts
    ∙ ap (λ o. Some (resolved (label_of parts) o (stored parts.name))) (without_own (written_after no_definitions front) parts parts.name (λ same. absent) ∙ known)

-- ---- unused definitions

module _ (stored other : Definitions) where
  -- each name has the same definition in both, or the events neither reach it nor end because it is missing
  abbrev Agree : List Event → Type 0
  Agree es = (name : List ℕ) → (stored name ≡ other name) ⊎ IsUnused name es

  record Same (es es' : List Event) : Type 0 where
    first : first_structural es' ≡ first_structural es
    reach : reached es' ≡ reached es

  -- the first events, if they have no fault, don't change the first fault of the rest
  reached_front : (xs ys : List Event) → first_structural xs ≡ None → reached (xs ++ ys) ≡ reached xs ++ reached ys
  reached_front [] ys clean = refl
  reached_front (Text text ∷ xs) ys clean = ap (λ es. Text text ∷ es) (reached_front xs ys clean)
  reached_front (Open label meaning ∷ xs) ys clean = ap (λ es. Open label meaning ∷ es) (reached_front xs ys clean)
  reached_front (Close ∷ xs) ys clean = ap (λ es. Close ∷ es) (reached_front xs ys clean)
  reached_front (FaultEvent fault ∷ xs) ys clean = cc

  -- if they have a fault, nothing after it is reached
  reached_stop : (xs ys : List Event) (fault : Fault) → first_structural xs ≡ Some fault → reached (xs ++ ys) ≡ reached xs
  reached_stop [] ys fault bad = cc
  reached_stop (Text text ∷ xs) ys fault bad = ap (λ es. Text text ∷ es) (reached_stop xs ys fault bad)
  reached_stop (Open label meaning ∷ xs) ys fault bad = ap (λ es. Open label meaning ∷ es) (reached_stop xs ys fault bad)
  reached_stop (Close ∷ xs) ys fault bad = ap (λ es. Close ∷ es) (reached_stop xs ys fault bad)
  reached_stop (FaultEvent fault' ∷ xs) ys fault bad = refl

  -- a name that isn't reached is reached in no part
  neither : (a b : Bool) → cond a true b ≡ false → (a ≡ false) × (b ≡ false)
  neither true b e = cc
  neither false b e = (refl, e)

  unused_left : (name : List ℕ) (xs ys : List Event) → reaches name (reached (xs ++ ys)) ≡ false → reaches name (reached xs) ≡ false
  unused_left name [] ys e = refl
  unused_left name (Text text ∷ xs) ys e = unused_left name xs ys e
  unused_left name (Close ∷ xs) ys e = unused_left name xs ys e
  unused_left name (FaultEvent fault ∷ xs) ys e = refl
  unused_left name (Open label (Inline text) ∷ xs) ys e = unused_left name xs ys e
  unused_left name (Open label (Stored text) ∷ xs) ys e = let (head, tail) = neither (bytes_eq label.name name) (reaches name (reached (xs ++ ys))) e in rw head (unused_left name xs ys tail)

  unused_right : (name : List ℕ) (xs ys : List Event) → first_structural xs ≡ None → reaches name (reached (xs ++ ys)) ≡ false → reaches name (reached ys) ≡ false
  unused_right name [] ys clean e = e
  unused_right name (Text text ∷ xs) ys clean e = unused_right name xs ys clean e
  unused_right name (Close ∷ xs) ys clean e = unused_right name xs ys clean e
  unused_right name (FaultEvent fault ∷ xs) ys clean e = cc
  unused_right name (Open label (Inline text) ∷ xs) ys clean e = unused_right name xs ys clean e
  unused_right name (Open label (Stored text) ∷ xs) ys clean e = unused_right name xs ys clean (neither (bytes_eq label.name name) (reaches name (reached (xs ++ ys))) e).1

  same_append : (xs ys xs' ys' : List Event) → Agree (xs ++ ys) → (Agree xs → Same xs xs') → (Agree ys → Same ys ys') → Same (xs ++ ys) (xs' ++ ys')
  same_append xs ys xs' ys' agree f g = go (first_structural xs) refl
    where
      left : Agree xs
      left name = elim (agree name) [
        | inl same ↦ inl same
        | inr unused ↦ inr (unused_left name xs ys unused.0, λ missing. unused.1 (rw (first_structural-append xs ys, missing) refl))
      ]

      right : first_structural xs ≡ None → Agree ys
      right clean name = elim (agree name) [
        | inl same ↦ inl same
        | inr unused ↦ inr (unused_right name xs ys clean unused.0, λ missing. unused.1 (rw (first_structural-append xs ys, clean) missing))
      ]

      go : (o : Option Fault) → first_structural xs ≡ o → Same (xs ++ ys) (xs' ++ ys')
      go (Some fault) is =
          let h = f left in
          let there : first_structural xs' ≡ Some fault = h.first ∙ is in
          record {
            first = first_structural-append xs' ys' ∙ ap (λ o. or_else o (first_structural ys')) there ∙ ap (λ o. or_else o (first_structural ys)) (sym is) ∙ sym (first_structural-append xs ys);
            reach = reached_stop xs' ys' fault there ∙ h.reach ∙ sym (reached_stop xs ys fault is);
          }
      go None is =
          let h = f left in
          let k = g (right is) in
          let there : first_structural xs' ≡ None = h.first ∙ is in
          record {
            first = first_structural-append xs' ys' ∙ ap (λ o. or_else o (first_structural ys')) there ∙ k.first ∙ ap (λ o. or_else o (first_structural ys)) (sym is) ∙ sym (first_structural-append xs ys);
            reach = reached_front xs' ys' there ∙ ap (λ es. es ++ reached ys') h.reach ∙ ap (λ es. reached xs ++ es) k.reach ∙ sym (reached_front xs ys is);
          }

  -- an event that is no fault, in front of both lists
  same_text : (text : List ℕ) (es es' : List Event) → (Agree es → Same es es') → Agree (Text text ∷ es) → Same (Text text ∷ es) (Text text ∷ es')
  same_text text es es' h agree = let s = h agree in record { first = s.first; reach = ap (λ es. Text text ∷ es) s.reach }

  same_inline : (label : Label) (text : List ℕ) (es es' : List Event) → (Agree es → Same es es') → Agree (Open label (Inline text) ∷ es) → Same (Open label (Inline text) ∷ es) (Open label (Inline text) ∷ es')
  same_inline label text es es' h agree = let s = h agree in record { first = s.first; reach = ap (λ es. Open label (Inline text) ∷ es) s.reach }

  same_stored : (label : Label) (text : List ℕ) (es es' : List Event) → (Agree es → Same es es') → Agree (Open label (Stored text) ∷ es) → Same (Open label (Stored text) ∷ es) (Open label (Stored text) ∷ es')
  same_stored label text es es' h agree =
      let s = h (λ name. elim (agree name) [
        | inl same ↦ inl same
        | inr unused ↦ inr ((neither (bytes_eq label.name name) (reaches name (reached es)) unused.0).1, unused.1)
      ]) in
      record { first = s.first; reach = ap (λ es. Open label (Stored text) ∷ es) s.reach }

  -- a name whose stored definition is used has the same in both
  used : (label : Label) (text : List ℕ) (es : List Event) → Agree (Open label (Stored text) ∷ es) → stored label.name ≡ other label.name
  used label text es agree = elim (agree label.name) [
    | inl same ↦ same
    | inr unused ↦ absurd (true≢false (sym ((bytes_eq-Decides label.name label.name).1 refl) ∙ (neither (bytes_eq label.name label.name) (reaches label.name (reached es)) unused.0).0))
  ]

  missed : (name : List ℕ) (es : List Event) → Agree (FaultEvent (Missing name) ∷ es) → stored name ≡ other name
  missed name es agree = elim (agree name) [ inl same ↦ same | inr unused ↦ absurd (unused.1 refl) ]

  module _ (inner inner' : List ℕ → List Event) (h : (text : List ℕ) → Agree (inner text) → Same (inner text) (inner' text)) where
    same_opened : (parts : Parts) (own : Option (List ℕ)) (rest rest' : List Item) (kept : Option (List ℕ)) → stored parts.name ≡ kept
        → (Agree (events inner rest) → Same (events inner rest) (events inner' rest'))
        → Agree (events inner (resolved (label_of parts) own kept ∷ rest)) → Same (events inner (resolved (label_of parts) own kept ∷ rest)) (events inner' (resolved (label_of parts) own (other parts.name) ∷ rest'))
    same_opened parts (Some text) rest rest' kept is ih agree =
        same_inline (label_of parts) text (inner text ++ events inner rest) (inner' text ++ events inner' rest')
        (λ a. same_append (inner text) (events inner rest) (inner' text) (events inner' rest') a (h text) ih) agree
    same_opened parts None rest rest' (Some text) is ih agree =
        let it : Some text ≡ other parts.name = sym is ∙ used (label_of parts) text (inner text ++ events inner rest) agree in
        subst (λ o. Same (Open (label_of parts) (Stored text) ∷ inner text ++ events inner rest) (events inner' (resolved (label_of parts) None o ∷ rest'))) it
        (same_stored (label_of parts) text (inner text ++ events inner rest) (inner' text ++ events inner' rest')
        (λ a. same_append (inner text) (events inner rest) (inner' text) (events inner' rest') a (h text) ih) agree)
    same_opened parts None rest rest' None is ih agree =
        let it : None ≡ other parts.name = sym is ∙ missed parts.name (events inner rest) agree in
        subst (λ o. Same (FaultEvent (Missing parts.name) ∷ events inner rest) (events inner' (resolved (label_of parts) None o ∷ rest'))) it (record { first = refl; reach = refl })

    same_pieces : (written : Definitions) (ps : List Piece) → Agree (events inner (items_after stored written ps)) → Same (events inner (items_after stored written ps)) (events inner' (items_after other written ps))
    same_pieces written [] agree = record { first = refl; reach = refl }
    same_pieces written (Regular s e text ∷ ps) agree = same_text text (events inner (items_after stored written ps)) (events inner' (items_after other written ps)) (same_pieces written ps) agree
    same_pieces written (Malformed fault ∷ ps) agree = record { first = refl; reach = refl }
    same_pieces written (Placeholder s e text parts ∷ ps) agree =
        same_opened parts (with_written written parts parts.name) (items_after stored (with_written written parts) ps) (items_after other (with_written written parts) ps) (stored parts.name) refl
        (same_pieces (with_written written parts) ps) agree

  same_inside : (levels : ℕ) (text : List ℕ) → Agree (inside (items_of stored) levels text) → Same (inside (items_of stored) levels text) (inside (items_of other) levels text)
  same_inside zero text agree = record { first = refl; reach = refl }
  same_inside (suc levels) text agree =
      same_append (events (inside (items_of stored) levels) (items_of stored text)) (Close ∷ []) (events (inside (items_of other) levels) (items_of other text)) (Close ∷ []) agree
      (same_pieces (inside (items_of stored) levels) (inside (items_of other) levels) (same_inside levels) no_definitions (pieces text))
      (λ a. record { first = refl; reach = refl })

pub unused_definitions_do_not_matter : UnusedDefinitionsDoNotMatter
unfolding tree
unused_definitions_do_not_matter stored other pattern agree =
    let s = same_pieces stored other (inside (items_of stored) deepest) (inside (items_of other) deepest) (same_inside stored other deepest) no_definitions (pieces pattern) agree in
    (s.first, s.reach)

-- ---- modes

not_fault : (length groups nesting : ℕ) (fault : Fault) → size_within length groups nesting ≡ Faulty fault → ⊥
not_fault length groups nesting fault e = go (nat_lt length (2 ^ 64)) e
  where
    go : (b : Bool) → cond b (Sized length groups nesting) TooLong ≡ Faulty fault → ⊥
    go true e = cc
    go false e = cc

pub modes_fault_alike : ModesFaultAlike
modes_fault_alike tree settings other fault e = go (first_structural tree) e
  where
    go : (o : Option Fault) → fault_or o (size_within (length (expanded settings tree)) (groups settings tree) (nesting tree)) ≡ Faulty fault
        → fault_or o (size_within (length (expanded other tree)) (groups other tree) (nesting tree)) ≡ Faulty fault
    go (Some f) e = e
    go None e = absurd (not_fault (length (expanded settings tree)) (groups settings tree) (nesting tree) fault e)

written_fits : (alias_only : Bool) (count : ℕ) (es : List Event) → IsTextOf es (text_after alias_only count es)
written_fits alias_only count [] = refl
written_fits alias_only count (Text text ∷ es) = (text_after alias_only count es, refl, written_fits alias_only count es)
written_fits alias_only count (Close ∷ es) = (text_after alias_only count es, refl, written_fits alias_only count es)
written_fits alias_only count (FaultEvent fault ∷ es) = written_fits alias_only count es
written_fits alias_only count (Open label meaning ∷ es) = go (is_capturing alias_only label) (written_fits alias_only (suc count) es) (written_fits alias_only count es)
  where
    go : (b : Bool) → IsTextOf es (text_after alias_only (suc count) es) → IsTextOf es (text_after alias_only count es)
        → IsTextOf (Open label meaning ∷ es) (cond b (named_head count ++ text_after alias_only (suc count) es) (unnamed_head ++ text_after alias_only count es))
    go true next same = (named_head count, text_after alias_only (suc count) es, Numbered count, refl, next)
    go false next same = (unnamed_head, text_after alias_only count es, Unnamed, refl, same)

pub heads_alone_differ : HeadsAloneDiffer
heads_alone_differ alias_only tree = written_fits alias_only 0 tree

pub ruleset tree_laws = (own_definition_holds, earlier_definition_holds, stored_definition_holds, unused_definitions_do_not_matter, modes_fault_alike, heads_alone_differ)
