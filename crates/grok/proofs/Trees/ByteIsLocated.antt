-- The sizes of what events write add up. So the event at which the search for a byte stops writes that byte.
use Rattle.std.proofs.Common.{◌≡◌, ℕ, ◌+◌, ◌<◌, ◌≤◌, Bool, true, false, List, Bor, [], ◌∷◌, ◌++◌, length, Option, Result, Some, None, Ok, Err, refl, sym, ◌∙◌, ap, subst, arith, length-append, append-nil, suc}
use Rattle.std.proofs.lemmas.Bool.{ltb-true, ltb-false}
use Rattle.std.specs.Prelude.{nat_lt, IsTrue, IsFalse, if◌then◌else◌}
use Rattle.grok.specs.Tree.{deepest, Definitions, Fault, Item, events, inside, tree, first_structural, Event, FaultEvent}
use Rattle.grok.specs.Keys.{capturing}
use Rattle.grok.specs.Expanded.{expanded, groups, nesting}
use Rattle.grok.specs.steps.Sizes.{Size, plus, digits_from, length_of, size_of_bytes, size_or_fault}
use Rattle.grok.specs.steps.MeasureCache.{shown, shown_result}
use Rattle.grok.specs.Measured.{measure_view, Measured, Sized, TooLong, size_within, fault_or, measured_tree}
use Rattle.grok.specs.FaultLocations.{Step}
use Rattle.grok.specs.ByteLocations.{IsOwnEvent, Regular, Opening, Closing, Broken, Deep, IsEventAt, IsPartOf, IsByteLocation}
use Rattle.grok.specs.steps.Searches.{PassesMore}
use Rattle.grok.specs.declared.measure.measurer.Measurer.{Measurer}
use Rattle.grok.specs.steps.ByteSearches.{IsSizeOf, IsLater, IsPartOfItem, HasPassedBytes, WritesByte}
use Rattle.grok.specs.declared.measure.partial_size.PartialSize.{PartialSize}
use Rattle.grok.specs.declared.errors.fault.Fault.{Fault as CodeFault}
use Rattle.grok.specs.declared.measure.Measure.{Measure}
use Rattle.grok.specs.declared.measure.Measure.TheVariants as measure
use Rattle.grok.specs.declared.locate_byte.WrittenByte.{WrittenByte}
use Rattle.grok.specs.declared.locate_byte.ByteSearch.{ByteSearch}
use Rattle.grok.proofs.Sizes.SizeIsThatOfTree.{plain, plain-append, capturing-append, length-text_after, tree_sizes}
use Rattle.grok.proofs.Trees.EventsInTree.{own_event}
use Rattle.grok.proofs.Trees.TextIsWritten.{clean_parts}

-- ---- sizes

module _ (alias_only : Bool) where
  -- the size of one event, or of others whose bytes and groups are known
  abbrev pub size_known : (sum : PartialSize) (es : List Event) (z : Size) → sum ≡ shown z → plain alias_only es ≡ z.bytes → groups alias_only es ≡ z.groups → IsSizeOf alias_only sum es
  size_known sum es z shows bytes counts =
      let digits : digits_from 0 (length (capturing alias_only es)) ≡ digits_from 0 z.groups = ap (digits_from 0) counts in
      record { size = z; shows = shows; counts = counts; bytes = omega (arith, length-text_after alias_only 0 es, bytes, digits) }

  pub plain_is : (sum : PartialSize) (xs : List Event) (s : IsSizeOf alias_only sum xs) → plain alias_only xs ≡ s.size.bytes
  plain_is sum xs s =
      let digits : digits_from 0 (length (capturing alias_only xs)) ≡ digits_from 0 s.size.groups = ap (digits_from 0) s.counts in
      omega (arith, length-text_after alias_only 0 xs, s.bytes, digits)

  -- the size of some events and others after them
  abbrev pub size_both : (sum more later : PartialSize) (xs ys : List Event) (s : IsSizeOf alias_only sum xs) (t : IsSizeOf alias_only more ys) → later ≡ shown (plus s.size t.size) → IsSizeOf alias_only later (xs ++ ys)
  size_both sum more later xs ys s t shows = size_known later (xs ++ ys) (plus s.size t.size) shows
      (plain-append alias_only xs ys ∙ omega (arith, plain_is sum xs s, plain_is more ys t))
      (ap length (capturing-append alias_only xs ys) ∙ length-append (capturing alias_only xs) (capturing alias_only ys) ∙ omega (arith, s.counts, t.counts))

  -- a byte is before the end of what has this size, or not
  pub is_within : (sum : PartialSize) (xs : List Event) (byte : ℕ) (s : IsSizeOf alias_only sum xs) → nat_lt byte (length_of s.size) ≡ true → byte < length (expanded alias_only xs)
  is_within sum xs byte s is = omega (arith, s.bytes, ltb-true byte (length_of s.size) is)

  pub is_past : (sum : PartialSize) (xs : List Event) (byte : ℕ) (s : IsSizeOf alias_only sum xs) → nat_lt byte (length_of s.size) ≡ false → IsLater alias_only xs byte sum
  is_past sum xs byte s is = record { size = s; passed = omega (arith, s.bytes, ltb-false byte (length_of s.size) is) }

-- ---- the whole pattern

abbrev whole_size : Bool → List Event → Measured
whole_size alias_only tree = size_within (length (expanded alias_only tree)) (groups alias_only tree) (nesting tree)

-- a pattern that was measured to have no fault has none
pub measured_clean : (alias_only : Bool) (tree : List Event) (found : Measure) → ((fault : CodeFault) → found ≡ measure.Fault fault → ⊥) → measure_view found ≡ measured_tree alias_only tree → first_structural tree ≡ None
measured_clean alias_only tree (measure.Fault fault) other e = absurd (other fault refl)
measured_clean alias_only tree (measure.Size l g n) other e = go (first_structural tree) refl e
  where
    go : (found : Option Fault) → first_structural tree ≡ found → Sized l g n ≡ fault_or found (whole_size alias_only tree) → first_structural tree ≡ None
    go None is e = is
    go (Some fault) is e = cc
measured_clean alias_only tree measure.TooLong other e = go (first_structural tree) refl e
  where
    go : (found : Option Fault) → first_structural tree ≡ found → TooLong ≡ fault_or found (whole_size alias_only tree) → first_structural tree ≡ None
    go None is e = is
    go (Some fault) is e = cc

-- ---- the event that writes the byte

-- an event of a malformed piece is a fault
own_part : (stored : Definitions) (levels : ℕ) (item : Item) (own : List Event) (event : Event) (offset : ℕ) (part : WrittenByte) → IsOwnEvent stored levels item own event → ((fault : Fault) → event ≡ FaultEvent fault → ⊥)
    → IsPartOfItem offset item part → IsPartOf offset item part
own_part stored levels item own event offset part (Regular _ text) sound is = is
own_part stored levels item own event offset part (Opening _ label meaning) sound is = is
own_part stored levels item own event offset part (Closing n label meaning) sound is = is
own_part stored levels item own event offset part (Broken _ fault) sound is = absurd (sound fault refl)
own_part stored levels item own event offset part (Deep label meaning) sound is = is

no_fault : (before : List Event) (event : Event) (after : List Event) → first_structural (before ++ event ∷ after) ≡ None → (fault : Fault) → event ≡ FaultEvent fault → ⊥
no_fault before event after clean fault is = let bad : Some fault ≡ None = sym (ap (λ event. first_structural (event ∷ after)) is) ∙ (clean_parts before (event ∷ after) clean).1 in cc

nothing_written : (alias_only : Bool) (byte : ℕ) (sum : PartialSize) → sum ≡ shown (size_of_bytes []) → IsLater alias_only [] byte sum
nothing_written alias_only byte sum shows = record { size = record { size = size_of_bytes []; shows = shows; counts = refl; bytes = refl }; passed = omega arith }

-- nothing was passed over yet
pub nothing_passed : (start : ByteSearch) → start.before ≡ shown (size_of_bytes []) → HasPassedBytes start [] start
nothing_passed start shows = record { measurer = refl; byte = refl; later = nothing_written start.measurer.now.settings.with_alias_only start.byte start.before shows }

-- ---- steps of the search

module _ (old : ByteSearch) (size after : PartialSize) (es : List Event) (s : IsSizeOf old.measurer.now.settings.with_alias_only size es) (adds : (x y : Size) → old.before ≡ shown x → size ≡ shown y → after ≡ shown (plus x y))
    (is : Bool) (tests : (z : Size) → after ≡ shown z → is ≡ nat_lt old.byte (length_of z)) (start : ByteSearch) (before : List Event) (p : HasPassedBytes start before old) where
  abbrev alias_only : Bool
  alias_only = start.measurer.now.settings.with_alias_only

  abbrev size_now : IsSizeOf alias_only size es
  size_now = subst (λ (measurer : Bor Measurer). IsSizeOf measurer.now.settings.with_alias_only size es) p.measurer s

  abbrev shows_now : after ≡ shown (plus p.later.size.size size_now.size)
  shows_now = adds p.later.size.size size_now.size p.later.size.shows size_now.shows

  abbrev size_after : IsSizeOf alias_only after (before ++ es)
  size_after = size_both alias_only old.before size after before es p.later.size size_now shows_now

  tests_now : is ≡ nat_lt start.byte (length_of (plus p.later.size.size size_now.size))
  tests_now = subst (λ byte. is ≡ nat_lt byte (length_of (plus p.later.size.size size_now.size))) p.byte (tests (plus p.later.size.size size_now.size) shows_now)

  pub size_stops : is ≡ true → start.byte < length (expanded start.measurer.now.settings.with_alias_only (before ++ es))
  size_stops ends = is_within alias_only after (before ++ es) start.byte size_after (sym tests_now ∙ ends)

  pub size_passed : is ≡ false → HasPassedBytes start (before ++ es) (record old { before = after })
  size_passed later = record { measurer = p.measurer; byte = p.byte; later = is_past alias_only after (before ++ es) start.byte size_after (sym tests_now ∙ later) }

-- a definition is passed over at once, or not at all
pub passed_if : (old new : ByteSearch) (is_passed : Bool) (es : List Event) → (IsTrue is_passed → PassesMore HasPassedBytes old es new) → (IsFalse is_passed → new ≡ old) → PassesMore HasPassedBytes old (if is_passed then es else []) new
passed_if old new true es passed same start before p = passed refl start before p
passed_if old new false es passed same start before p = subst (λ es. HasPassedBytes start es new) (sym (append-nil before)) (subst (HasPassedBytes start before) (sym (same refl)) p)

pub definition_size : (alias_only : Bool) (resolve : List ℕ → List Item) (levels : ℕ) (text : List ℕ) (sum : PartialSize) (r : Result Size Fault) → size_or_fault alias_only resolve (suc levels) text ≡ r
    → Ok sum ≡ shown_result r → IsSizeOf alias_only sum (events (inside resolve levels) (resolve text))
definition_size alias_only resolve levels text sum (Err fault) is same = cc
definition_size alias_only resolve levels text sum (Ok z) is same =
    let t = tree_sizes alias_only resolve levels text in
    let shows : sum ≡ shown z = cc in
    record { size = z; shows = shows; counts = t.groups z is; bytes = t.length z is }

-- ---- what the search finds

pub byte_found : (stored : Definitions) (pattern : List ℕ) (path : List Step) (text : List ℕ) (from to : ℕ) (item : Item) (before : List Event) (event : Event) (after : List Event) (old new : ByteSearch) (offset : ℕ) (part : WrittenByte)
    → first_structural (tree stored pattern) ≡ None → tree stored pattern ≡ before ++ event ∷ after → IsEventAt stored deepest pattern path text from to item before event → HasPassedBytes old before new → WritesByte old before event
    → ((z : Size) → new.before ≡ shown z → length_of z ≤ old.byte → old.byte ≡ length_of z + offset) → IsPartOfItem offset item part
    → IsByteLocation stored old.measurer.now.settings.with_alias_only pattern old.byte path text from to part
byte_found stored pattern path text from to item before event after old new offset part clean cut stands passed sought after_is is =
    let size = passed.later.size in
    let low : length_of size.size ≤ old.byte = omega (arith, size.bytes, passed.later.passed) in
    let begins : old.byte ≡ length_of size.size + offset = after_is size.size size.shows low in
    let o = own_event stored deepest pattern path text from to item before event stands in
    record {
      clean = clean;
      item = item;
      before = before;
      event = event;
      after = after;
      offset = offset;
      cut = cut;
      begins = omega (arith, begins, size.bytes);
      ends = sought;
      stands = stands;
      is = own_part stored o.levels item o.own event offset part o.is_own (no_fault before event after (sym (ap first_structural cut) ∙ clean)) is;
    }
