-- The loop over frames: at each step, what was read, the remaining items and the frames together give the
-- result.
use Rattle.std.proofs.Common.{◌≡◌, ℕ, zero, suc, ◌+◌, ◌-◌, ◌<◌, max, Bool, true, false, cond, List, [], ◌∷◌, ◌++◌, length, length-append, Option, Result, Some, Ok, Err, IfErr, Bor, refl, sym, ◌∙◌, ap, subst, arith}
use Rattle.std.specs.Option.{option_map}
use Rattle.std.specs.BTreeMap.{BTreeMap}
use Rattle.std.specs.Str.{bytes_eq}
use Rattle.grok.specs.declared.measure.partial_size.PartialSize.{PartialSize}
use Rattle.grok.specs.declared.measure.cache.MeasureCache.{MeasureCache}
use Rattle.grok.specs.declared.measure.cache.Progress.{Progress}
use Rattle.grok.specs.declared.measure.cache.Progress.TheVariants as progress
use Rattle.grok.specs.declared.measure.partial_size.Failure.{Failure}
use Rattle.grok.specs.declared.measure.measurer.Frame.{Frame}
use Rattle.grok.specs.declared.measure.placeholders.PlaceholderSize.{PlaceholderSize}
use Rattle.grok.specs.declared.measure.placeholders.PlaceholderSize.TheVariants.{Measured, Unread}
use Rattle.grok.specs.declared.defs.items.Label.{Label as CodeLabel}
use Rattle.grok.specs.Tree.{Fault, MalformedPiece, Missing, TooDeep, Label, Meaning, Inline, Stored, Item, TextItem, FaultItem, PlaceholderItem}
use Rattle.grok.specs.Items.{fault_view, label_view}
use Rattle.grok.specs.Keys.{is_capturing}
use Rattle.grok.specs.steps.Sizes.{Size, no_size, size_of_bytes, plus, in_brackets, sum_in_brackets, wrapped}
use Rattle.grok.specs.steps.MeasuredOnce as kept
use Rattle.grok.specs.steps.MeasuredOnce.{InProgress, HasSize, HasFault, NeedsMoreThan, known_result, reach_within, failed_progress, State, Reading, piece_read, ended, labelled, with_progress, with_reach, deeper, inlined, then_rest, finish, by_result, by_progress, visit, item_within, stored_within, items_within}
use Rattle.grok.specs.Measured.{saturated}
use Rattle.grok.specs.steps.MeasureCache.{shown, shown_progress, shown_result, result_view, progress_view, progress_of, is_kept, ShowsState, HasReach, ReturnsSize, ReturnsReading, RemembersReading, HasProgress, BeginsMeasuring, MustBeMeasured, MatchPlaceholderSize, unwound, StopsReading}
use Rattle.grok.proofs.Sizes.ReadingInduction.{after_size}
use Rattle.grok.proofs.Sizes.SizesAdd.{both_none, both_assoc, same_size}

-- ---- progress

pushed : (b : Bool) (progress : Progress) (known : kept.Progress Size) (now : Option Progress) (old : Option (kept.Progress Size)) → progress_view progress ≡ shown_progress known → option_map progress_view now ≡ option_map shown_progress old
    → option_map progress_view (cond b (Some progress) now) ≡ option_map shown_progress (cond b (Some known) old)
pushed true progress known now old is same = ap Some is
pushed false progress known now old is same = same

pub progress_shows : (cache : MeasureCache) (by_name : BTreeMap (Bor (List ℕ)) Progress) (name : List ℕ) (progress : Progress)
    → HasProgress name progress cache (record cache { by_name = by_name })
    → (st : State) (known : kept.Progress Size) → progress_view progress ≡ shown_progress known → ShowsState cache st → ShowsState (record cache { by_name = by_name }) (with_progress st name known)
progress_shows cache by_name name progress updates st known is s = record {
  by_name = λ other. ap (option_map progress_view) (updates other) ∙ pushed (bytes_eq name other) progress known (progress_of cache.by_name other) (st.by_name other) is (s.by_name other);
  pieces = s.pieces;
  ends = s.ends;
  has_numbered = s.has_numbered;
}

pub with_reach_shows : (cache : MeasureCache) (st : State) (reach : ℕ) → ShowsState cache st → ShowsState cache (with_reach st reach)
with_reach_shows cache st reach s = record { by_name = s.by_name; pieces = s.pieces; ends = s.ends; has_numbered = s.has_numbered }

-- ---- looks

abbrev pub piece_counted : MeasureCache → MeasureCache
piece_counted cache = record cache { looks = record { pieces = saturated (cache.looks.pieces + 1); ends = cache.looks.ends } }

abbrev pub end_counted : MeasureCache → MeasureCache
end_counted cache = record cache { looks = record { pieces = cache.looks.pieces; ends = saturated (cache.looks.ends + 1) } }

shows_piece : (cache : MeasureCache) (st : State) → ShowsState cache st → ShowsState (piece_counted cache) (piece_read st)
shows_piece cache st s = record { by_name = s.by_name; pieces = omega (arith, s.pieces); ends = s.ends; has_numbered = s.has_numbered }

shows_end : (cache : MeasureCache) (st : State) → ShowsState cache st → ShowsState (end_counted cache) (ended st)
shows_end cache st s = record { by_name = s.by_name; pieces = s.pieces; ends = omega (arith, s.ends); has_numbered = s.has_numbered }

-- ---- results

pub shown_ok : (r : Result Size Fault) (s : PartialSize) → Ok s ≡ shown_result r → (z : Size) × (r ≡ Ok z) × (s ≡ shown z)
shown_ok (Ok z) s e = (z, refl, cc)
shown_ok (Err f) s e = cc

pub shown_err : (r : Result Size Fault) (f : Fault) → Err f ≡ shown_result r → r ≡ Err f
shown_err (Ok z) f e = cc
shown_err (Err g) f e = let same : f ≡ g = cc in ap Err (sym same)

-- ---- faults

-- the innermost frame is unwound first
pub unwound_push : (levels : ℕ) (frames : List Frame) (frame : Frame) (fault : Fault) (st : State)
    → unwound levels (frames ++ frame ∷ []) fault st ≡ unwound levels frames fault (unwound (levels - length frames) (frame ∷ []) fault st)
unwound_push levels [] frame fault st =
    let all : levels ≡ levels - 0 = omega arith in
    ap (λ n. unwound n (frame ∷ []) fault st) all
unwound_push levels (f ∷ frames) frame fault st =
    let fewer : levels - 1 - length frames ≡ levels - suc (length frames) = omega arith in
    let outer : State → State = λ inner. with_reach (with_progress inner f.name.now (failed_progress fault levels inner.reach)) (max f.sum.height (suc inner.reach)) in
    ap outer (unwound_push (levels - 1) frames frame fault st ∙ ap (λ n. unwound (levels - 1) frames fault (unwound n (frame ∷ []) fault st)) fewer)

pub shown_failed : (fault : Fault) (levels reach : ℕ) → failed_progress fault levels reach ≡ shown_progress (failed_progress fault levels reach)
shown_failed (MalformedPiece f) levels reach = refl
shown_failed (Missing name) levels reach = refl
shown_failed TooDeep levels reach = refl

-- a part of the frames is unwound
pub record Unwinds (levels : ℕ) (all left : List Frame) (fault : Fault) (st : State) (cache : MeasureCache) (height : ℕ) : Type 0 where
  pub now : State
  pub shows : ShowsState cache now
  pub reach : now.reach ≡ height
  pub same : unwound levels all fault st ≡ unwound levels left fault now

pub unwinds_more : (levels n : ℕ) (all left : List Frame) (frame : Frame) (fault : Fault) (st : State) (cache after : MeasureCache) (progress : Progress) (height next : ℕ)
    → Unwinds levels all (left ++ frame ∷ []) fault st cache height → n ≡ levels - length left → progress_view progress ≡ failed_progress fault n height → next ≡ max frame.sum.height (suc height)
    → ((st : State) (known : kept.Progress Size) → progress_view progress ≡ shown_progress known → ShowsState cache st → ShowsState after (with_progress st frame.name.now known))
    → Unwinds levels all left fault st after next
unwinds_more levels n all left frame fault st cache after progress height next u room is high by_name =
    let name = frame.name.now in
    let now = u.now in
    let updated : progress_view progress ≡ shown_progress (failed_progress fault (levels - length left) now.reach) =
    is ∙ ap (λ k. failed_progress fault k height) room ∙ ap (failed_progress fault (levels - length left)) (sym u.reach) ∙ shown_failed fault (levels - length left) now.reach in
    let last = with_progress now name (failed_progress fault (levels - length left) now.reach) in
    record {
      now = unwound (levels - length left) (frame ∷ []) fault now;
      shows = with_reach_shows after last (max frame.sum.height (suc now.reach)) (by_name now (failed_progress fault (levels - length left) now.reach) updated u.shows);
      reach = omega (arith, u.reach, high);
      same = u.same ∙ unwound_push levels left frame fault now;
    }

-- ---- the loop

reached : (st : State) (m n : ℕ) → m ≡ n → with_reach st m ≡ with_reach st n
reached st m n e = ap (with_reach st) e

after_no_size : (answer : Reading) → after_size no_size answer ≡ answer
after_no_size answer =
    let same : max 0 answer.1.reach ≡ answer.1.reach = omega arith in
    λ i. (both_none answer.0 i, reached answer.1 (max 0 answer.1.reach) answer.1.reach same i)

after_two_sizes : (a b : Size) (answer : Reading) → after_size a (after_size b answer) ≡ after_size (plus a b) answer
after_two_sizes a b answer =
    let same : max a.height (max b.height answer.1.reach) ≡ max (max a.height b.height) answer.1.reach = omega arith in
    λ i. (sym (both_assoc (Ok a) (Ok b) answer.0) i, reached answer.1 (max a.height (max b.height answer.1.reach)) (max (max a.height b.height) answer.1.reach) same i)

plus_none_right : (a : Size) → plus a no_size ≡ a
plus_none_right a = same_size _ _ (omega arith) (omega arith) (omega arith)

module _ (alias_only : Bool) (resolve : List ℕ → List Item) where
  abbrev reads : ℕ → List Item → State → Reading
  reads levels items st = items_within alias_only resolve levels items st

  -- ---- frames

  -- the result of a text that has this size so far, then a definition with the result `inner`, and then these items
  abbrev pub around : ℕ → List ℕ → Bool → List Item → Size → Reading → Reading
  around levels name capturing items total inner =
      after_size total (then_rest (sum_in_brackets capturing (finish name levels inner).0) (deeper (finish name levels inner).1) (reads levels items))

  -- the result of the innermost text, put into these frames (the outermost first), is that of the whole
  abbrev pub AreAround : ℕ → List Frame → Reading → Reading → Type 0
  AreAround levels [] inner whole = whole ≡ inner
  AreAround levels (frame ∷ frames) inner whole =
      (total : Size) × (mid : Reading) × (frame.sum ≡ shown total) × (whole ≡ around levels frame.name.now frame.is_capturing frame.items total mid) × AreAround (levels - 1) frames inner mid

  around_push : (levels : ℕ) (frames : List Frame) (frame : Frame) (total : Size) (inner whole : Reading) → frame.sum ≡ shown total
      → AreAround levels frames (around (levels - length frames) frame.name.now frame.is_capturing frame.items total inner) whole → AreAround levels (frames ++ frame ∷ []) inner whole
  around_push levels [] frame total inner whole sum h =
      let all : levels - 0 ≡ levels = omega arith in
      (total, inner, sum, h ∙ ap (λ n. around n frame.name.now frame.is_capturing frame.items total inner) all, refl)
  around_push levels (f ∷ frames) frame total inner whole sum (t, mid, s, is, h) =
      let fewer : levels - suc (length frames) ≡ levels - 1 - length frames = omega arith in
      (t, mid, s, is, around_push (levels - 1) frames frame total inner mid sum (subst (λ n. AreAround (levels - 1) frames (around n frame.name.now frame.is_capturing frame.items total inner) mid) fewer h))

  pub record Popped (levels : ℕ) (frames : List Frame) (frame : Frame) (inner whole : Reading) : Type 0 where
    pub total : Size
    pub is_sum : frame.sum ≡ shown total
    pub rest : AreAround levels frames (around (levels - length frames) frame.name.now frame.is_capturing frame.items total inner) whole

  around_pop : (levels : ℕ) (frames : List Frame) (frame : Frame) (inner whole : Reading) → AreAround levels (frames ++ frame ∷ []) inner whole → Popped levels frames frame inner whole
  around_pop levels [] frame inner whole (total, mid, sum, is, same) =
      let all : levels - 0 ≡ levels = omega arith in
      record {
        total = total;
        is_sum = sum;
        rest = is ∙ ap (around levels frame.name.now frame.is_capturing frame.items total) same ∙ ap (λ n. around n frame.name.now frame.is_capturing frame.items total inner) (sym all);
      }
  around_pop levels (f ∷ frames) frame inner whole (t, mid, s, is, h) =
      let p = around_pop (levels - 1) frames frame inner mid h in
      let fewer : levels - 1 - length frames ≡ levels - suc (length frames) = omega arith in
      record {
        total = p.total;
        is_sum = p.is_sum;
        rest = (t, mid, s, is, subst (λ n. AreAround (levels - 1) frames (around n frame.name.now frame.is_capturing frame.items p.total inner) mid) fewer p.rest);
      }

  -- a fault ends all of them
  around_fault : (levels : ℕ) (frames : List Frame) (fault : Fault) (st : State) (whole : Reading) → AreAround levels frames (Err fault, st) whole → whole ≡ (Err fault, unwound levels frames fault st)
  around_fault levels [] fault st whole is = is
  around_fault levels (f ∷ frames) fault st whole (t, mid, s, is, h) =
      let inner = unwound (levels - 1) frames fault st in
      let high : t.height ≡ f.sum.height = sym (ap (λ (z : PartialSize). z.height) s) in
      is ∙ ap (around levels f.name.now f.is_capturing f.items t) (around_fault (levels - 1) frames fault st mid h)
      ∙ ap (λ n. (Err fault, with_reach (with_progress inner f.name.now (failed_progress fault levels inner.reach)) (max n (suc inner.reach)))) high

  -- ---- opening a text

  pub known_gives : (levels : ℕ) (label : Label) (text : List ℕ) (st : State) (cache : MeasureCache) → 0 < levels → ShowsState cache st → (r w : Result PartialSize Failure)
      → ((fresh : Reading) → RemembersReading r st (by_progress (st.by_name label.name) levels st fresh))
      → ((st' : State) (inner : Result Size Fault) → result_view r ≡ shown_result inner → HasReach r st' → ReturnsSize w (wrapped alias_only label inner) (deeper st'))
      → ReturnsReading w cache (stored_within alias_only resolve levels label text st)
  known_gives zero label text st cache some shows r w h wraps = absurd (omega arith)
  known_gives (suc levels) label text st cache some shows r w h wraps =
      let fresh = finish label.name (suc levels) (reads levels (resolve text) (with_progress st label.name InProgress)) in
      let k = h fresh in
      let answer = by_progress (st.by_name label.name) (suc levels) st fresh in
      let wrap = wraps answer.1 answer.0 k.same k.reach in
      record {
        same = wrap.same;
        reach = wrap.reach;
        leaves = subst (λ s. ShowsState cache (deeper s)) (sym k.stays) (with_reach_shows cache st (suc answer.1.reach) shows);
      }

  -- no level is left
  pub none_gives : (levels : ℕ) (label : Label) (text : List ℕ) (st : State) (cache : MeasureCache) → levels ≡ 0 → ShowsState cache st → (r w : Result PartialSize Failure)
      → result_view r ≡ Err TooDeep → HasReach r (with_reach st 0)
      → ((st' : State) (inner : Result Size Fault) → result_view r ≡ shown_result inner → HasReach r st' → ReturnsSize w (wrapped alias_only label inner) (deeper st'))
      → ReturnsReading w cache (stored_within alias_only resolve levels label text st)
  none_gives (suc levels) label text st cache none shows r w is reach wraps = cc
  none_gives zero label text st cache none shows r w is reach wraps =
      let wrap = wraps (with_reach st 0) (Err TooDeep) is reach in
      record { same = wrap.same; reach = wrap.reach; leaves = with_reach_shows cache st 1 shows }

  -- regular text has its own size, and a fault is that of the text
  pub text_gives : (levels : ℕ) (text : List ℕ) (st : State) (cache : MeasureCache) (sum : PartialSize) → sum ≡ shown (size_of_bytes text) → ShowsState cache st
      → ReturnsReading (Ok sum) cache (item_within alias_only resolve levels (TextItem text) st)
  text_gives levels text st cache sum is shows = record { same = ap Ok is; reach = tt; leaves = shows }

  pub fault_gives : (levels : ℕ) (st : State) (cache : MeasureCache) (failure : Failure) → failure.height ≡ 0 → ShowsState cache st
      → ReturnsReading (Err failure) cache (item_within alias_only resolve levels (FaultItem (fault_view failure.fault)) st)
  fault_gives levels st cache failure low shows = record { same = refl; reach = sym low; leaves = with_reach_shows cache st 0 shows }

  -- an inline definition
  pub inline_gives : (levels : ℕ) (item : Item) (label : Label) (text : List ℕ) (st : State) (after : MeasureCache) → item ≡ PlaceholderItem label (Inline text) → ShowsState after (labelled label st)
      → (r w : Result PartialSize Failure) → result_view r ≡ shown_result (inlined levels text) → IfErr r (λ failure. failure.height ≡ 0)
      → ((st' : State) (inner : Result Size Fault) → result_view r ≡ shown_result inner → HasReach r st' → ReturnsSize w (wrapped alias_only label inner) (deeper st'))
      → ReturnsReading w after (item_within alias_only resolve levels item st)
  inline_gives levels item label text st after is shows r w same height wraps =
      let now = with_reach (labelled label st) 0 in
      let wrap = wraps now (inlined levels text) same (reach r height) in
      subst (λ i. ReturnsReading w after (item_within alias_only resolve levels i st)) (sym is)
      (record { same = wrap.same; reach = wrap.reach; leaves = with_reach_shows after (labelled label st) 1 shows })
    where
      reach : (r : Result PartialSize Failure) → IfErr r (λ failure. failure.height ≡ 0) → HasReach r (with_reach (labelled label st) 0)
      reach (Ok sum) h = tt
      reach (Err failure) h = sym h

  abbrev IsStoredSize : ℕ → CodeLabel → List ℕ → MeasureCache → MeasureCache → PlaceholderSize → Type 0
  IsStoredSize levels label text before after size = MatchPlaceholderSize size
      (λ r. (st : State) → ShowsState before st → ReturnsReading r after (stored_within alias_only resolve levels (label_view label) text st))
      (λ it. (it ≡ text) × (0 < levels) × BeginsMeasuring label.name.now levels before after)

  abbrev IsLabelledSize : ℕ → CodeLabel → Meaning → MeasureCache → MeasureCache → PlaceholderSize → Type 0
  IsLabelledSize levels label meaning before after size = MatchPlaceholderSize size
      (λ r. (st : State) → ShowsState before st → ReturnsReading r after (item_within alias_only resolve levels (PlaceholderItem (label_view label) meaning) st))
      (λ text. MustBeMeasured levels label meaning text before after)

  -- the definition of a placeholder with this label
  pub labelled_size : (levels : ℕ) (label : CodeLabel) (meaning : Meaning) (text : List ℕ) (before mid after : MeasureCache) (size : PlaceholderSize) → meaning ≡ Stored text
      → ((st : State) → ShowsState before st → ShowsState mid (labelled (label_view label) st)) → mid.by_name ≡ before.by_name
      → IsStoredSize levels label text mid after size → IsLabelledSize levels label meaning before after size
  labelled_size levels label meaning text before mid after (Measured r) is shows same h = λ st s.
      subst (λ m. ReturnsReading r after (item_within alias_only resolve levels (PlaceholderItem (label_view label) m) st)) (sym is) (h (labelled (label_view label) st) (shows st s))
  labelled_size levels label meaning text before mid after (Unread stored) is shows same (it, room, cache) =
      subst (λ t. MustBeMeasured levels label meaning t before after) (sym it)
      (record {
        is = is;
        room = room;
        unkept = sym (ap (λ m. is_kept (progress_of m label.name.now)) same) ∙ cache.unkept;
        unknown = λ st s. cache.unknown (labelled (label_view label) st) (shows st s);
        updated = λ other. cache.updated other ∙ ap (λ m. cond (bytes_eq label.name.now other) (Some progress.InProgress) (progress_of m other)) same;
        shows = λ st s. cache.shows (labelled (label_view label) st) (shows st s);
      })

  -- ---- the loop

  -- within these frames, with this size so far and these remaining items, the result is that of the whole
  -- pattern
  pub record ContinuesReading (levels : ℕ) (whole : Reading) (frames : List Frame) (left : List Item) (so_far : PartialSize) (cache : MeasureCache) : Type 0 where
    pub now : State
    pub total : Size
    pub is_sum : so_far ≡ shown total
    pub shows : ShowsState cache now
    pub rest : AreAround levels frames (after_size total (reads (levels - length frames) left now)) whole

  pub goes_on_start : (levels : ℕ) (all : List Item) (st : State) (so_far : PartialSize) (cache : MeasureCache) → so_far ≡ shown no_size → ShowsState cache st → ContinuesReading levels (reads levels all st) [] all so_far cache
  goes_on_start levels all st so_far cache e shows =
      let same : levels - 0 ≡ levels = omega arith in
      record { now = st; total = no_size; is_sum = e; shows = shows; rest = sym (after_no_size (reads levels all st)) ∙ ap (λ n. after_size no_size (reads n all st)) (sym same) }

  -- a text has ended, and the one around it goes on
  pub end_goes_on : (levels : ℕ) (whole : Reading) (frames : List Frame) (frame : Frame) (so_far sum : PartialSize) (cache after : MeasureCache) → ContinuesReading levels whole (frames ++ frame ∷ []) [] so_far cache
      → ((now : State) (size : Size) → so_far ≡ shown size → ShowsState (end_counted cache) now → ShowsState after (with_progress now frame.name.now (HasSize size)))
      → ((x y : Size) → frame.sum ≡ shown x → so_far ≡ shown y → sum ≡ shown (plus x (in_brackets frame.is_capturing y)))
      → ContinuesReading levels whole frames frame.items sum after
  end_goes_on levels whole frames frame so_far sum cache after g by_name adds =
      let read = with_reach (ended g.now) (max g.total.height g.now.reach) in
      let inner : Reading = (Ok (plus g.total no_size), read) in
      let p = around_pop levels frames frame inner whole g.rest in
      let left = reads (levels - length frames) frame.items in
      let size = in_brackets frame.is_capturing g.total in
      let last = deeper (with_progress read frame.name.now (HasSize g.total)) in
      let same : around (levels - length frames) frame.name.now frame.is_capturing frame.items p.total inner ≡ after_size (plus p.total size) (left last) =
      ap (λ (z : Size). around (levels - length frames) frame.name.now frame.is_capturing frame.items p.total (Ok z, read)) (plus_none_right g.total)
      ∙ after_two_sizes p.total size (left last) in
      record {
        now = last;
        total = plus p.total size;
        is_sum = adds p.total g.total p.is_sum g.is_sum;
        shows = with_reach_shows after (with_progress read frame.name.now (HasSize g.total)) (suc read.reach) (by_name read g.total g.is_sum (with_reach_shows (end_counted cache) (ended g.now) read.reach (shows_end cache g.now g.shows)));
        rest = subst (λ a. AreAround levels frames a whole) same p.rest;
      }

  module _ (levels : ℕ) (whole : Reading) (frames : List Frame) (item : Item) (left : List Item) (so_far : PartialSize) (cache after : MeasureCache) (g : ContinuesReading levels whole frames (item ∷ left) so_far cache) where
    abbrev room : ℕ
    room = levels - length frames

    module _ (r : Result PartialSize Failure) (h : (now : State) → ShowsState (piece_counted cache) now → ReturnsReading r after (item_within alias_only resolve room item now)) where
      abbrev here : Reading
      here = item_within alias_only resolve room item (piece_read g.now)

      gives : ReturnsReading r after here
      gives = h (piece_read g.now) (shows_piece cache g.now g.shows)

      pub fault_stops : (failure last : Failure) → r ≡ Err failure → last.fault ≡ failure.fault → last.height ≡ max so_far.height failure.height → StopsReading levels (Err last) frames after whole
      unfolding gives
      fault_stops failure last is fault height =
          let p = shown_err here.0 (fault_view failure.fault) (sym (ap result_view is) ∙ gives.same) in
          let now = with_reach here.1 (max g.total.height here.1.reach) in
          let over : after_size g.total (reads room (item ∷ left) g.now) ≡ (Err (fault_view failure.fault), now) = ap (λ (a : Result Size Fault). after_size g.total (then_rest a here.1 (reads room left))) p in
          let end : whole ≡ (Err (fault_view failure.fault), unwound levels frames (fault_view failure.fault) now) = around_fault levels frames (fault_view failure.fault) now whole (subst (λ a. AreAround levels frames a whole) over g.rest) in
          let same : fault_view last.fault ≡ fault_view failure.fault = ap fault_view fault in
          let reached : here.1.reach ≡ failure.height = subst (λ a. HasReach a here.1) is gives.reach in
          let sum : so_far.height ≡ g.total.height = ap (λ (z : PartialSize). z.height) g.is_sum in
          record {
            now = now;
            same = ap Err same ∙ sym (ap (λ (a : Reading). shown_result a.0) end);
            shows = with_reach_shows after here.1 now.reach gives.leaves;
            reach = omega (arith, reached, sum, height);
            leaves = ap (λ (a : Reading). a.1) end ∙ ap (λ f. unwound levels frames f now) (sym same);
          }

      pub sum_goes_on : (one sum : PartialSize) → r ≡ Ok one → ((x y : Size) → so_far ≡ shown x → one ≡ shown y → sum ≡ shown (plus x y)) → ContinuesReading levels whole frames left sum after
      unfolding gives
      sum_goes_on one sum is adds =
          let (z, p, q) = shown_ok here.0 one (sym (ap result_view is) ∙ gives.same) in
          let over : after_size g.total (reads room (item ∷ left) g.now) ≡ after_size (plus g.total z) (reads room left here.1) =
          ap (λ (a : Result Size Fault). after_size g.total (then_rest a here.1 (reads room left))) p ∙ after_two_sizes g.total z (reads room left here.1) in
          record {
            now = here.1;
            total = plus g.total z;
            is_sum = adds g.total z g.is_sum q;
            shows = gives.leaves;
            rest = subst (λ a. AreAround levels frames a whole) over g.rest;
          }

    -- a text is opened, and the one around it waits
    pub text_goes_on : (label : CodeLabel) (meaning : Meaning) (text : List ℕ) (capturing : Bool) (start : PartialSize) → item ≡ PlaceholderItem (label_view label) meaning
        → MustBeMeasured room label meaning text (piece_counted cache) after → capturing ≡ is_capturing alias_only (label_view label) → start ≡ shown no_size
        → ContinuesReading levels whole (frames ++ record { name = label.name; is_capturing = capturing; items = left; sum = so_far } ∷ []) (resolve text) start after
    text_goes_on label meaning text capturing start is o has_key none_yet =
        let frame : Frame = record { name = label.name; is_capturing = capturing; items = left; sum = so_far } in
        let l = label_view label in
        let before = labelled l (piece_read g.now) in
        let now = with_progress before label.name.now InProgress in
        let fewer : room ≡ suc (room - 1) = omega (arith, o.room) in
        let less : room - 1 ≡ levels - length (frames ++ frame ∷ []) = omega (arith, length-append frames (frame ∷ [])) in
        let inner = reads (room - 1) (resolve text) now in
        let visited : visit alias_only resolve room label.name.now text before ≡ finish label.name.now room inner =
        ap (λ n. visit alias_only resolve n label.name.now text before) fewer
        ∙ ap (λ n. by_progress (before.by_name label.name.now) n before (finish label.name.now n inner)) (sym fewer)
        ∙ o.unknown (piece_read g.now) (shows_piece cache g.now g.shows) (finish label.name.now room inner) in
        let over : after_size g.total (reads room (item ∷ left) g.now) ≡ around room label.name.now capturing left g.total inner =
        ap (λ i. after_size g.total (reads room (i ∷ left) g.now)) (is ∙ ap (PlaceholderItem l) o.is)
        ∙ ap (λ (a : Reading). after_size g.total (then_rest (wrapped alias_only l a.0) (deeper a.1) (reads room left))) visited
        ∙ ap (λ b. around room label.name.now b left g.total inner) (sym has_key) in
        let same : inner ≡ after_size no_size (reads (levels - length (frames ++ frame ∷ [])) (resolve text) now) =
        sym (after_no_size inner) ∙ ap (λ n. after_size no_size (reads n (resolve text) now)) less in
        record {
          now = now;
          total = no_size;
          is_sum = none_yet;
          shows = o.shows (piece_read g.now) (shows_piece cache g.now g.shows);
          rest = subst (λ a. AreAround levels (frames ++ frame ∷ []) a whole) same
              (around_push levels frames frame g.total inner whole g.is_sum (subst (λ a. AreAround levels frames a whole) over g.rest));
        }
