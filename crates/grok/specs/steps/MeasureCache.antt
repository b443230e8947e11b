-- What the code remembers while it measures, and how that corresponds to the definitions of MeasuredOnce.
use Rattle.std.specs.Prelude.{◌≡◌, ℕ, suc, ◌-◌, ◌^◌, ◌<◌, ◌≤◌, max, Bool, true, false, List, [], ◌∷◌, if◌then◌else◌, nat_lt, Option, Some, None, Result, Ok, Err, MatchResult}
use Rattle.std.specs.Option.{option_map}
use Rattle.std.specs.Str.{bytes_eq}
use Rattle.std.specs.Ordering.{nat_cmp}
use Rattle.std.specs.Cmp.Lexicographic.{slice_cmp}
use Rattle.std.specs.BTreeMap.{BTreeMap, get_by}
use Rattle.std.specs.Borrow.{Bor}
use Rattle.std.specs.FinMap as finite
use Rattle.grok.specs.Maps.{Texts}
use Rattle.grok.specs.declared.measure.partial_size.PartialSize.{PartialSize}
use Rattle.grok.specs.declared.measure.cache.MeasureCache.{MeasureCache}
use Rattle.grok.specs.declared.measure.partial_size.Failure.{Failure}
use Rattle.grok.specs.declared.measure.cache.Progress.{Progress}
use Rattle.grok.specs.declared.measure.cache.Progress.TheVariants as progress
use Rattle.grok.specs.declared.measure.measurer.Frame.{Frame}
use Rattle.grok.specs.declared.measure.measurer.Measurer.{Measurer}
use Rattle.grok.specs.declared.measure.placeholders.PlaceholderSize.{PlaceholderSize}
use Rattle.grok.specs.declared.measure.placeholders.PlaceholderSize.TheVariants as placeholder_size
use Rattle.grok.specs.declared.defs.items.Label.{Label}
use Rattle.grok.specs.Tree as tree
use Rattle.grok.specs.Items.{fault_view, label_view}
use Rattle.grok.specs.steps.Sizes.{Size, length_of, size_or_fault}
use Rattle.grok.specs.steps.MeasuredOnce as kept
use Rattle.grok.specs.steps.MeasuredOnce.{State, Reading, InProgress, HasSize, HasFault, NeedsMoreThan, known_result, failed_progress, by_progress, labelled, with_progress, with_reach}
use Rattle.grok.specs.Measured.{Measured, Faulty, size_within, saturated}

-- the items of a text, resolved by these definitions
abbrev pub items_in : Texts → List ℕ → List tree.Item
items_in texts text = tree.items_of (finite.get texts) text

-- the number, or `None` if it doesn't fit a `usize`
abbrev pub fit : ℕ → Option ℕ
fit n = if nat_lt n (2 ^ 64) then Some n else None

-- a size as the code keeps it
abbrev pub shown : Size → PartialSize
shown size = record { bytes = fit size.bytes; groups = fit size.groups; height = size.height }

-- a size or fault as the code keeps it
abbrev pub shown_result : Result Size tree.Fault → Result PartialSize tree.Fault
shown_result (Ok size) = Ok (shown size)
shown_result (Err fault) = Err fault

-- what contracts see of a size or fault that the code returns
abbrev pub result_view : Result PartialSize Failure → Result PartialSize tree.Fault
result_view (Ok sum) = Ok sum
result_view (Err failure) = Err (fault_view failure.fault)

-- the fault that measuring returned, if it returned one
abbrev pub fault_in : Result Size tree.Fault → Option tree.Fault
fault_in (Ok size) = None
fault_in (Err fault) = Some fault

-- the progress of a definition, with its size as the code keeps it
abbrev pub shown_progress : kept.Progress Size → kept.Progress PartialSize
shown_progress InProgress = InProgress
shown_progress (HasSize size) = HasSize (shown size)
shown_progress (HasFault fault height) = HasFault fault height
shown_progress (NeedsMoreThan levels) = NeedsMoreThan levels

-- what contracts see of the progress that the code keeps
abbrev pub progress_view : Progress → kept.Progress PartialSize
progress_view progress.InProgress = InProgress
progress_view (progress.HasSize sum) = HasSize sum
progress_view (progress.HasFault failure) = HasFault (fault_view failure.fault) failure.height
progress_view (progress.NeedsMoreThan levels) = NeedsMoreThan levels

-- how far measuring the definition of a name has come, or `None` if it hasn't begun
abbrev pub progress_of : BTreeMap (Bor (List ℕ)) Progress → List ℕ → Option Progress
progress_of by_name name = get_by (λ (key : Bor (List ℕ)). slice_cmp nat_cmp name key.now) by_name

-- Whether a definition with this progress was measured or is being measured, and won't be measured again, however
-- many levels are left.
abbrev pub is_kept : Option Progress → Bool
is_kept None = false
is_kept (Some progress.InProgress) = true
is_kept (Some (progress.HasSize sum)) = true
is_kept (Some (progress.HasFault failure)) = true
is_kept (Some (progress.NeedsMoreThan levels)) = false

-- the cache of the code remembers what the state `st` of MeasuredOnce.antt does, whose numbers have no greatest value
pub record ShowsState (cache : MeasureCache) (st : State) : Type 0 where
  pub by_name : (name : List ℕ) → option_map progress_view (progress_of cache.by_name name)
      ≡ option_map shown_progress (st.by_name name)
  pub pieces : cache.looks.pieces ≡ saturated st.looks
  pub ends : cache.looks.ends ≡ saturated st.ends
  pub has_numbered : cache.has_numbered ≡ st.has_numbered

-- if `r` is a fault, its height is `st.reach`, how many levels were nested before it
abbrev pub HasReach : Result PartialSize Failure → State → Type 0
HasReach (Ok sum) st = Unit {0}
HasReach (Err failure) st = st.reach ≡ failure.height

-- The code returns `r`, which is the size or fault `given`. If it is a fault, its height is `st.reach`, how many
-- levels were nested before it.
pub record ReturnsSize (r : Result PartialSize Failure) (given : Result Size tree.Fault) (st : State) : Type 0 where
  pub same : result_view r ≡ shown_result given
  pub reach : HasReach r st

-- the code returns `r`, the size or fault of the reading `answer`, and its cache remembers the state of that reading
pub record ReturnsReading (r : Result PartialSize Failure) (cache : MeasureCache) (answer : Reading) : Type 0 where
  pub same : result_view r ≡ shown_result answer.0
  pub reach : HasReach r answer.1
  pub leaves : ShowsState cache answer.1

-- the code returns `r`, the size or fault of the reading `answer`, and then its cache remembers the state after it
pub record AnswersReading (r : Result PartialSize Failure) (cache : MeasureCache) (answer : Reading) : Type 0 where
  pub same : result_view r ≡ shown_result answer.0
  pub leaves : ShowsState cache answer.1

-- The code returns `r`, the size or fault of the reading `answer`. Of the state `st`, that reading changes only the
-- nesting before the fault.
pub record RemembersReading (r : Result PartialSize Failure) (st : State) (answer : Reading) : Type 0 where
  pub same : result_view r ≡ shown_result answer.0
  pub reach : HasReach r answer.1
  pub stays : answer.1 ≡ with_reach st answer.1.reach

-- the cache doesn't know the size or fault of the definition `name` with `levels` levels left
abbrev pub IsUnknown : List ℕ → ℕ → MeasureCache → Type 0
IsUnknown name levels cache = (st : State) → ShowsState cache st → (fresh : Reading)
    → by_progress (st.by_name name) levels st fresh ≡ fresh

-- in the cache `after`, the name has this progress, and every other name has the progress that it has in `before`
abbrev pub HasProgress : List ℕ → Progress → MeasureCache → MeasureCache → Type 0
HasProgress name progress before after = (other : List ℕ) → progress_of after.by_name other
    ≡ (if bytes_eq name other then Some progress else progress_of before.by_name other)

-- measuring this definition has begun: it had to be measured with `levels` levels left, and is in progress now
pub record BeginsMeasuring (name : List ℕ) (levels : ℕ) (before after : MeasureCache) : Type 0 where
  pub unkept : is_kept (progress_of before.by_name name) ≡ false
  pub unknown : IsUnknown name levels before
  pub updated : HasProgress name progress.InProgress before after
  pub shows : (st : State) → ShowsState before st → ShowsState after (with_progress st name InProgress)

-- The placeholder with this label stands for this stored definition, which has to be measured first and is in
-- progress now.
pub record MustBeMeasured (levels : ℕ) (label : Label) (meaning : tree.Meaning) (text : List ℕ)
    (before after : MeasureCache) : Type 0 where
  pub is : meaning ≡ tree.Stored text
  pub room : 0 < levels
  pub unkept : is_kept (progress_of before.by_name label.name.now) ≡ false
  pub unknown : (st : State) → ShowsState before st → (fresh : Reading)
      → by_progress (st.by_name label.name.now) levels (labelled (label_view label) st) fresh ≡ fresh
  pub updated : HasProgress label.name.now progress.InProgress before after
  pub shows : (st : State) → ShowsState before st → ShowsState after (with_progress
      (labelled (label_view label) st) label.name.now InProgress)

-- What measuring a placeholder returned: either its size or fault, for which `Is` holds, or the text of a definition
-- that has to be measured first, for which `Opens` holds.
abbrev pub MatchPlaceholderSize : PlaceholderSize → (Result PartialSize Failure → Type 0) → (List ℕ → Type 0) → Type 0
MatchPlaceholderSize (placeholder_size.Measured r) Is Opens = Is r
MatchPlaceholderSize (placeholder_size.Unread stored) Is Opens = Opens stored.now

-- if the size or fault of the placeholder is known, `Is` holds for it
abbrev pub IfMeasured : PlaceholderSize → (Result PartialSize Failure → Type 0) → Type 0
IfMeasured (placeholder_size.Measured r) Is = Is r
IfMeasured (placeholder_size.Unread stored) Is = Unit {0}

-- ---- from one pattern to the next

-- What is remembered after a fault has also ended the texts that wait in `frames`, the innermost of which is the
-- last. The fault is remembered for the name of each frame, from the inside out. From frame to frame its height
-- grows by one level, or to the height of the items before the frame's placeholder if that is greater.
abbrev pub unwound : ℕ → List Frame → tree.Fault → State → State
unwound levels [] fault st = st
unwound levels (frame ∷ frames) fault st =
    let inner = unwound (levels - 1) frames fault st in
    with_reach (with_progress inner frame.name.now (failed_progress fault levels inner.reach))
    (max frame.sum.height (suc inner.reach))

-- in no frame the items before the placeholder are nested deeper than `most` levels
abbrev pub AreLow : ℕ → List Frame → Type 0
AreLow most [] = Unit {0}
AreLow most (frame ∷ frames) = (frame.sum.height ≤ most) × AreLow most frames

-- Reading a text ended with `r`: its size, or a fault while texts still wait in `frames`. The reading `answer` has
-- the same size or fault. Its state is that of the cache, and after a fault that in which the fault has also been
-- remembered for each frame.
pub record StopsReading (levels : ℕ) (r : Result PartialSize Failure) (frames : List Frame) (cache : MeasureCache)
    (answer : Reading) : Type 0 where
  pub now : State
  pub same : result_view r ≡ shown_result answer.0
  pub shows : ShowsState cache now
  pub reach : HasReach r now
  pub leaves : MatchResult r (λ sum. answer.1 ≡ now) (λ failure. answer.1
      ≡ unwound levels frames (fault_view failure.fault) now)

-- each size or fault that the progress of a definition gives is really that of the definition, whose text is `text`
abbrev pub HoldsOfText : Bool → (List ℕ → List tree.Item) → kept.Progress Size → List ℕ → Type 0
HoldsOfText alias_only resolve progress text = (levels : ℕ) (r : Result Size tree.Fault) → known_result progress levels ≡ Some r
    → size_or_fault alias_only resolve levels text ≡ r

-- everything that the state `st` remembers of the definitions `texts` is right, and no definition is in progress
pub record IsCorrect (texts : Texts) (alias_only : Bool) (st : State) : Type 0 where
  pub none_begun : (name : List ℕ) → st.by_name name ≡ Some InProgress → ⊥
  pub says : (name : List ℕ) (progress : kept.Progress Size) (text : List ℕ) → st.by_name name ≡ Some progress
      → finite.get texts name ≡ Some text → HoldsOfText alias_only (items_in texts) progress text

-- everything that the code's cache remembers is right
pub record ShowsCorrectState (texts : Texts) (alias_only : Bool) (cache : MeasureCache) : Type 0 where
  pub st : State
  pub shows : ShowsState cache st
  pub is_true : IsCorrect texts alias_only st

-- everything that the measurer remembers is right
abbrev pub HasCorrectCache : Measurer → Type 0
HasCorrectCache measurer = ShowsCorrectState measurer.settings.grok.now measurer.settings.with_alias_only measurer.cache

-- the public result for this size or fault
abbrev pub measured_size : Result Size tree.Fault → Measured
measured_size (Ok size) = size_within (length_of size) size.groups size.height
measured_size (Err fault) = Faulty fault
