-- What is written for the events of a tree is their expanded text, and each of their capturing placeholders has its key.
use Rattle.std.proofs.Common.{◌≡◌, ℕ, suc, ◌+◌, ◌≤◌, Bool, true, false, cond, List, [], ◌∷◌, ◌++◌, length, Option, Some, None, refl, sym, ◌∙◌, ap, subst, arith, add-zero, append-nil, append_assoc}
use Rattle.std.specs.String.{string_bytes, string_len, string_capacity}
use Rattle.grok.specs.Tree.{Definitions, Fault, Label, Meaning, Event, Text, Open, Close, FaultEvent, first_structural, tree}
use Rattle.grok.specs.Keys.{is_capturing, capturing}
use Rattle.grok.specs.GeneratedNames.{named_head, unnamed_head}
use Rattle.grok.specs.Expanded.{text_after, expanded}
use Rattle.grok.specs.steps.CapturedSoFar.{after}
use Rattle.grok.specs.steps.AssignedKeys.{HasAssigned, CanAssign}
use Rattle.grok.specs.steps.Searches.{IsReadyFor, StaysReady}
use Rattle.grok.specs.steps.Descents.{FindsPlace}
use Rattle.grok.specs.steps.FaultSearches.{is_fault}
use Rattle.grok.specs.steps.Writes.{CanWrite, HasWritten}
use Rattle.grok.specs.declared.descend.Place.{Place}
use Rattle.grok.specs.declared.settings.Settings.{Settings}
use Rattle.grok.specs.declared.expand.key_assigner.KeyAssigner.{KeyAssigner}
use Rattle.grok.specs.declared.write.Writer.{Writer}
use Rattle.grok.proofs.Texts.RoomIsLeft.{room_first, room_after}
use Rattle.grok.proofs.Sizes.SizeIsThatOfTree.{or_else, first_structural-append}
use Rattle.grok.proofs.Keys.FirstFaultAndLastExtract.{after-append}
use Rattle.grok.proofs.Keys.KeysAreAssigned.{length_after, keys_counted}

-- ---- one list of events after the other

text_after-append : (alias_only : Bool) (count : ℕ) (xs ys : List Event) → text_after alias_only count (xs ++ ys) ≡ text_after alias_only count xs ++ text_after alias_only (count + length (capturing alias_only xs)) ys
text_after-append alias_only count [] ys = ap (λ n. text_after alias_only n ys) (sym (add-zero count))
text_after-append alias_only count (Text text ∷ xs) ys = rw (text_after-append alias_only count xs ys) (sym (append_assoc text (text_after alias_only count xs) (text_after alias_only (count + length (capturing alias_only xs)) ys)))
text_after-append alias_only count (Close ∷ xs) ys = ap (λ bs. 41 ∷ bs) (text_after-append alias_only count xs ys)
text_after-append alias_only count (FaultEvent fault ∷ xs) ys = text_after-append alias_only count xs ys
text_after-append alias_only count (Open label meaning ∷ xs) ys = go (is_capturing alias_only label) (text_after-append alias_only (suc count) xs ys) (text_after-append alias_only count xs ys)
  where
    go : (b : Bool)
        → text_after alias_only (suc count) (xs ++ ys) ≡ text_after alias_only (suc count) xs ++ text_after alias_only (suc count + length (capturing alias_only xs)) ys
        → text_after alias_only count (xs ++ ys) ≡ text_after alias_only count xs ++ text_after alias_only (count + length (capturing alias_only xs)) ys
        → cond b (named_head count ++ text_after alias_only (suc count) (xs ++ ys)) (unnamed_head ++ text_after alias_only count (xs ++ ys))
        ≡ cond b (named_head count ++ text_after alias_only (suc count) xs) (unnamed_head ++ text_after alias_only count xs)
        ++ text_after alias_only (count + length (cond b (label ∷ capturing alias_only xs) (capturing alias_only xs))) ys
    go true one none =
        let moved : suc count + length (capturing alias_only xs) ≡ count + suc (length (capturing alias_only xs)) = omega arith in
        let head = named_head count in
        let a = text_after alias_only (suc count) xs in
        ap (λ bs. head ++ bs) (one ∙ ap (λ n. a ++ text_after alias_only n ys) moved) ∙ sym (append_assoc head a (text_after alias_only (count + suc (length (capturing alias_only xs))) ys))
    go false one none = rw none refl

both_none : (o p : Option Fault) → or_else o p ≡ None → (o ≡ None) × (p ≡ None)
both_none None p e = (refl, e)
both_none (Some f) p e = cc

pub clean_parts : (xs ys : List Event) → first_structural (xs ++ ys) ≡ None → (first_structural xs ≡ None) × (first_structural ys ≡ None)
clean_parts xs ys e = both_none (first_structural xs) (first_structural ys) (sym (first_structural-append xs ys) ∙ e)

-- ---- one more event

module _ (start : Writer) (before : List Event) (old : Writer) (h : HasWritten start before old) (new : Writer) (same : new.settings ≡ old.settings) where
  abbrev alias_only : Bool
  alias_only = start.settings.with_alias_only

  written_more : (event : Event) (added : List ℕ) → string_bytes new.text ≡ string_bytes old.text ++ added → added ≡ text_after alias_only (length (capturing alias_only before)) (event ∷ [])
      → HasAssigned new.keys (after alias_only (after alias_only [] before) (event ∷ [])) → HasWritten start (before ++ event ∷ []) new
  written_more event added text is keys =
      let from_zero : length (capturing alias_only before) ≡ 0 + length (capturing alias_only before) = omega arith in
      record {
        settings = same ∙ h.settings;
        text = text ∙ ap (λ bs. bs ++ added) h.text ∙ ap (λ bs. text_after alias_only 0 before ++ bs) (is ∙ ap (λ n. text_after alias_only n (event ∷ [])) from_zero) ∙ sym (text_after-append alias_only 0 before (event ∷ []));
        keys = subst (HasAssigned new.keys) (sym (after-append alias_only [] before (event ∷ []))) keys;
      }

  pub wrote_text : (text : List ℕ) → string_bytes new.text ≡ string_bytes old.text ++ text → new.keys ≡ old.keys → HasWritten start (before ++ Text text ∷ []) new
  wrote_text text is keys = written_more (Text text) text is (sym (append-nil text)) (subst (λ keys. HasAssigned keys (after alias_only [] before)) (sym keys) h.keys)

  pub wrote_close : string_bytes new.text ≡ string_bytes old.text ++ 41 ∷ [] → new.keys ≡ old.keys → HasWritten start (before ++ Close ∷ []) new
  wrote_close is keys = written_more Close (41 ∷ []) is refl (subst (λ keys. HasAssigned keys (after alias_only [] before)) (sym keys) h.keys)

  module _ (label : Label) (meaning : Meaning) where
    pub wrote_unnamed : is_capturing alias_only label ≡ false → string_bytes new.text ≡ string_bytes old.text ++ unnamed_head → new.keys ≡ old.keys → HasWritten start (before ++ Open label meaning ∷ []) new
    wrote_unnamed other is keys =
        written_more (Open label meaning) unnamed_head is (rw other refl)
        (rw other (subst (λ keys. HasAssigned keys (after alias_only [] before)) (sym keys) h.keys))

    -- the number of the group is how many placeholders have a key
    pub wrote_named : is_capturing alias_only label ≡ true → string_bytes new.text ≡ string_bytes old.text ++ named_head (length old.keys.keys.items)
        → ((earlier : List Label) → HasAssigned old.keys earlier → HasAssigned new.keys (label ∷ earlier)) → HasWritten start (before ++ Open label meaning ∷ []) new
    wrote_named captures is assigns =
        let many : length old.keys.keys.items ≡ length (capturing alias_only before) = keys_counted old.keys (after alias_only [] before) h.keys ∙ length_after alias_only before in
        written_more (Open label meaning) (named_head (length old.keys.keys.items)) is (rw captures (ap named_head many ∙ sym (append-nil (named_head (length (capturing alias_only before))))))
        (rw captures (assigns (after alias_only [] before) h.keys))

-- ---- room for the events that remain

-- there is room for the text of the next event
pub room_for : (writer : Writer) (event : Event) (added more : List ℕ) (r : IsReadyFor CanWrite writer (event ∷ [])) → text_after writer.settings.with_alias_only (length writer.keys.keys.items) (event ∷ r.rest) ≡ added ++ more
    → string_len writer.text + length added ≤ string_capacity writer.text
room_for writer event added more r is =
    room_first writer.text added more (subst (λ bs. string_len writer.text + length bs ≤ string_capacity writer.text) is r.is.room)

module _ (old new : Writer) (same : new.settings ≡ old.settings) (added : List ℕ) (bytes : string_bytes new.text ≡ string_bytes old.text ++ added) (grows : string_capacity old.text ≤ string_capacity new.text) (event : Event) where
  stays : CanAssign new.keys → ((rest : List Event) → text_after old.settings.with_alias_only (length old.keys.keys.items) (event ∷ rest) ≡ added ++ text_after old.settings.with_alias_only (length new.keys.keys.items) rest)
      → StaysReady CanWrite old (event ∷ []) new
  stays assigned splits rest can =
      let count = length new.keys.keys.items in
      let left = text_after old.settings.with_alias_only count rest in
      let fits = room_after old.text new.text added left bytes grows (subst (λ bs. string_len old.text + length bs ≤ string_capacity old.text) (splits rest) can.room) in
      record { assigned = assigned; room = subst (λ (settings : Settings). string_len new.text + length (text_after settings.with_alias_only count rest) ≤ string_capacity new.text) (sym same) fits }

  pub stays_keyless : new.keys ≡ old.keys → ((rest : List Event) → text_after old.settings.with_alias_only (length old.keys.keys.items) (event ∷ rest) ≡ added ++ text_after old.settings.with_alias_only (length old.keys.keys.items) rest)
      → StaysReady CanWrite old (event ∷ []) new
  stays_keyless keys splits rest can =
      stays (subst CanAssign (sym keys) can.assigned) (λ rest. splits rest ∙ ap (λ (keys : KeyAssigner). added ++ text_after old.settings.with_alias_only (length keys.keys.items) rest) (sym keys)) rest can

  pub stays_keyed : (label : Label) → ((earlier : List Label) → HasAssigned old.keys earlier → HasAssigned new.keys (label ∷ earlier))
      → ((rest : List Event) → text_after old.settings.with_alias_only (length old.keys.keys.items) (event ∷ rest) ≡ added ++ text_after old.settings.with_alias_only (suc (length old.keys.keys.items)) rest)
      → StaysReady CanWrite old (event ∷ []) new
  stays_keyed label assigns splits rest can =
      let a = can.assigned in
      let shows = assigns a.before a.shows in
      let more : suc (length old.keys.keys.items) ≡ length new.keys.keys.items = ap suc (keys_counted old.keys a.before a.shows) ∙ sym (keys_counted new.keys (label ∷ a.before) shows) in
      stays (record { before = label ∷ a.before; shows = shows }) (λ rest. splits rest ∙ ap (λ n. added ++ text_after old.settings.with_alias_only n rest) more) rest can

-- ---- the whole

-- nothing is written yet, and there is room for the whole tree
pub room_at_first : (stored : Definitions) (pattern : List ℕ) (start : Writer) → HasAssigned start.keys [] → string_bytes start.text ≡ []
    → length (expanded start.settings.with_alias_only (tree stored pattern)) ≤ string_capacity start.text → CanWrite start (tree stored pattern)
room_at_first stored pattern start assigned empty room =
    let none : 0 ≡ length start.keys.keys.items = sym (keys_counted start.keys [] assigned) in
    let whole = tree stored pattern in
    let fits : string_len start.text + length (text_after start.settings.with_alias_only 0 whole) ≤ string_capacity start.text = omega (arith, room, start.text.bytes.ok.0, ap length empty) in
    record {
      assigned = record { before = []; shows = assigned };
      room = subst (λ n. string_len start.text + length (text_after start.settings.with_alias_only n whole) ≤ string_capacity start.text) none fits;
    }

-- in a tree without a fault, no event stops the writer
pub all_written : (stored : Definitions) (pattern : List ℕ) (found : Option Place) (start now : Writer) → first_structural (tree stored pattern) ≡ None
    → FindsPlace HasWritten (λ start es event. is_fault event ≡ true) stored pattern found start now → HasWritten start (tree stored pattern) now
all_written stored pattern None start now clean written = written
all_written stored pattern (Some place) start now clean f =
    absurd (no_fault f.event f.after f.sought (clean_parts f.before (f.event ∷ f.after) (sym (ap first_structural f.cut) ∙ clean)).1)
  where
    no_fault : (event : Event) (rest : List Event) → is_fault event ≡ true → first_structural (event ∷ rest) ≡ None → ⊥
    no_fault (Text text) rest is clean = cc
    no_fault (Open label meaning) rest is clean = cc
    no_fault Close rest is clean = cc
    no_fault (FaultEvent fault) rest is clean = cc
