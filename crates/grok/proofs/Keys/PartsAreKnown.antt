-- Reading a definition item by item gives the right known part of it: how many levels it needs, and which base keys its
-- capturing placeholders use.
use Rattle.std.proofs.Common.{◌≡◌, ℕ, zero, suc, ◌+◌, ◌<◌, ◌≤◌, Bool, true, false, cond, List, [], ◌∷◌, ◌++◌, Option, Some, None, Bor, not, refl, sym, ◌∙◌, ap, subst, arith, inl, inr, append_assoc, append-nil, length, length-append, map, drop}
use Rattle.std.specs.Prelude.{is_some}
use Rattle.std.specs.Str.{bytes_eq}
use Rattle.std.specs.FinMap as finite
use Rattle.std.specs.Map.{lookup}
use Rattle.std.specs.BTreeMap.{is_at, IsEmpty}
use Rattle.std.specs.Cmp.Lexicographic.{slice_cmp}
use Rattle.std.specs.Ordering.{nat_cmp}
use Rattle.std.proofs.lemmas.Bool.{cases_Bool, true≢false}
use Rattle.std.proofs.lemmas.Option.{none-some}
use Rattle.std.proofs.lemmas.List.{map-append, get_or_append_left, get_or_push}
use Rattle.std.proofs.Math.Seq.{drop-append_seam}
use Rattle.grok.specs.Tree.{Label, Meaning, Inline, Stored, meaning_text, Item, TextItem, FaultItem, PlaceholderItem, Event, Text, Open, Close, FaultEvent, events, first_structural}
use Rattle.grok.specs.Keys.{is_capturing, capturing, base_key}
use Rattle.grok.specs.Items.{item_view}
use Rattle.grok.specs.steps.Rows.{part_keys, flat, AreBelow, AreKeysOfParts}
use Rattle.grok.specs.steps.KnownParts.{resolve, opened_events, used_keys, own_keys, AddKeys, HaveKeys, AreKnownItems, IsKnownText, IsSoundItem, IsKnownOf, IsCutAt, IsReadOf, IsKnownPartOf, known_part_of, AreKnown}
use Rattle.grok.specs.declared.defs.items.Item as code
use Rattle.grok.specs.declared.expand.rows.Row.{Row}
use Rattle.grok.specs.declared.expand.rows.Row.TheVariants.{Use, Part}
use Rattle.grok.specs.declared.settings.Settings.{Settings}
use Rattle.grok.specs.declared.expand.known_parts.KnownItems.{KnownItems}
use Rattle.grok.specs.declared.expand.known_parts.ReadText.{ReadText}
use Rattle.grok.specs.declared.expand.known_parts.KnownPart.{KnownPart}
use Rattle.grok.specs.declared.expand.known_parts.KnownParts.{KnownParts}
use Rattle.grok.proofs.Texts.EqualBytesAreSameText.{same_text}
use Rattle.grok.proofs.Keys.FirstFaultAndLastExtract.{capturing-append}
use Rattle.grok.proofs.Keys.RowsOfOnePartMore.{flat-append, below-append, one_part_more}
use Rattle.grok.proofs.Sizes.SizeIsThatOfTree.{or_else, first_structural-append}
use Rattle.grok.proofs.Sizes.TextsWithoutPlaceholders.{AreBytes, AreSound}

-- ---- more rows

pub adds_none : (done : List (List (List ℕ))) (rows : List Row) → AddKeys done rows rows []
adds_none done rows = record { adds = sym (append-nil (flat done rows)); below = λ low. low }

pub adds_more : (done : List (List (List ℕ))) (old mid new : List Row) (keys more : List (List ℕ)) → AddKeys done old mid keys → AddKeys done mid new more → AddKeys done old new (keys ++ more)
adds_more done old mid new keys more a b = record {
  adds = b.adds ∙ ap (λ ks. ks ++ more) a.adds ∙ append_assoc (flat done old) keys more;
  below = λ low. b.below (a.below low);
}

pub adds_part : (done : List (List (List ℕ))) (old new : List Row) (index : ℕ) → new ≡ old ++ Part index ∷ [] → index < length done → AddKeys done old new (part_keys done index)
adds_part done old new index is within = record {
  adds = ap (flat done) is ∙ flat-append done old (Part index ∷ []) ∙ ap (λ ks. flat done old ++ ks) (append-nil (part_keys done index));
  below = λ low. subst (AreBelow (length done)) (sym is) (below-append (length done) old (Part index ∷ []) low (within, tt));
}

pub adds_use : (settings : Settings) (done : List (List (List ℕ))) (label : Label) (old new : List Row) (key : Bor (List ℕ)) → is_capturing settings.with_alias_only label ≡ true → key.now ≡ base_key label → new ≡ old ++ Use key ∷ [] → AddKeys done old new (own_keys settings label)
adds_use settings done label old new key captures is added =
    let own : own_keys settings label ≡ base_key label ∷ [] = ap (λ b. cond b (base_key label ∷ []) []) captures in
    subst (AddKeys done old new) (sym own) (record {
      adds = ap (flat done) added ∙ flat-append done old (Use key ∷ []) ∙ ap (λ k. flat done old ++ k ∷ []) is;
      below = λ low. subst (AreBelow (length done)) (sym added) (below-append (length done) old (Use key ∷ []) low tt);
    })

pub adds_no_use : (settings : Settings) (done : List (List (List ℕ))) (label : Label) (rows : List Row) → is_capturing settings.with_alias_only label ≡ false → AddKeys done rows rows (own_keys settings label)
adds_no_use settings done label rows not_capturing = subst (AddKeys done rows rows) (sym (ap (λ b. cond b (base_key label ∷ []) []) not_capturing)) (adds_none done rows)

-- ---- the keys of events

module _ (settings : Settings) where
  pub used-append : (xs ys : List Event) → used_keys settings (xs ++ ys) ≡ used_keys settings xs ++ used_keys settings ys
  used-append xs ys =
      ap (map base_key) (capturing-append settings.with_alias_only xs ys)
      ∙ map-append base_key (capturing settings.with_alias_only xs) (capturing settings.with_alias_only ys)

  pub used_by_open : (label : Label) (meaning : Meaning) → used_keys settings (Open label meaning ∷ []) ≡ own_keys settings label
  used_by_open label meaning =
      elim (is_capturing settings.with_alias_only label) as (λ b. map base_key (cond b (label ∷ []) []) ≡ cond b (base_key label ∷ []) []) [ true ↦ refl | false ↦ refl ]

  have_both : (xs ys : List Event) (keys more : List (List ℕ)) → HaveKeys settings xs keys → HaveKeys settings ys more → HaveKeys settings (xs ++ ys) (keys ++ more)
  have_both xs ys keys more p q = record {
    clean = first_structural-append xs ys ∙ ap (λ o. or_else o (first_structural ys)) p.clean ∙ q.clean;
    used = used-append xs ys ∙ ap (λ ks. ks ++ used_keys settings ys) p.used ∙ ap (λ ks. keys ++ ks) q.used;
  }

  have_open : (label : Label) (meaning : Meaning) → HaveKeys settings (Open label meaning ∷ []) (own_keys settings label)
  have_open label meaning = record { clean = refl; used = used_by_open label meaning }

  have_bytes : (inner : List ℕ → List Event) (items : List Item) → AreBytes items → HaveKeys settings (events inner items) []
  have_bytes inner [] bytes = record { clean = refl; used = refl }
  have_bytes inner (TextItem text ∷ items) bytes = let rest = have_bytes inner items bytes in record { clean = rest.clean; used = rest.used }
  have_bytes inner (FaultItem fault ∷ items) bytes = absurd bytes
  have_bytes inner (PlaceholderItem label meaning ∷ items) bytes = absurd bytes

  -- ---- whole texts, and sound items

  pub known_text : (text : List ℕ) (height : ℕ) (keys : List (List ℕ)) → AreKnownItems settings (resolve settings text) height keys → IsKnownText settings text height keys
  known_text text height keys k zero high = absurd (omega arith)
  known_text text height keys k (suc levels) high =
      subst (HaveKeys settings (opened_events settings (suc levels) text)) (append-nil keys)
      (have_both (events (opened_events settings levels) (resolve settings text)) (Close ∷ []) keys [] (k levels (omega arith)) (record { clean = refl; used = refl }))

  pub sound_first : (item : Item) (items : List Item) → AreSound (resolve settings) (finite.get settings.grok.now) (item ∷ items) → IsSoundItem settings item
  sound_first (TextItem text) items h = tt
  sound_first (FaultItem fault) items h = tt
  sound_first (PlaceholderItem label (Inline text)) items h =
      known_text text 0 [] (λ levels high. have_bytes (opened_events settings levels) (resolve settings text) h.0.bytes)
  sound_first (PlaceholderItem label (Stored text)) items h = h.0

  -- ---- one item more

  events_both : (inner : List ℕ → List Event) (xs ys : List Item) → events inner (xs ++ ys) ≡ events inner xs ++ events inner ys
  events_both inner [] ys = refl
  events_both inner (TextItem text ∷ xs) ys = ap (λ es. Text text ∷ es) (events_both inner xs ys)
  events_both inner (FaultItem fault ∷ xs) ys = ap (λ es. FaultEvent fault ∷ es) (events_both inner xs ys)
  events_both inner (PlaceholderItem label meaning ∷ xs) ys =
      ap (λ es. Open label meaning ∷ inner (meaning_text meaning) ++ es) (events_both inner xs ys)
      ∙ ap (λ es. Open label meaning ∷ es) (sym (append_assoc (inner (meaning_text meaning)) (events inner xs) (events inner ys)))

  known_one_more : (items : List Item) (item : Item) (low high : ℕ) (keys more : List (List ℕ)) → AreKnownItems settings items low keys → low ≤ high → AreKnownItems settings (item ∷ []) high more → AreKnownItems settings (items ++ item ∷ []) high (keys ++ more)
  known_one_more items item low high keys more k above m levels enough =
      let inner = opened_events settings levels in
      subst (λ es. HaveKeys settings es (keys ++ more)) (sym (events_both inner items (item ∷ [])))
      (have_both (events inner items) (events inner (item ∷ [])) keys more (k levels (omega arith)) (m levels enough))

  known_placeholder : (label : Label) (meaning : Meaning) (low high : ℕ) (keys : List (List ℕ)) → IsKnownText settings (meaning_text meaning) low keys → low < high → AreKnownItems settings (PlaceholderItem label meaning ∷ []) high (own_keys settings label ++ keys)
  known_placeholder label meaning low high keys k less levels enough =
      let inside = opened_events settings levels (meaning_text meaning) in
      subst (λ es. HaveKeys settings (Open label meaning ∷ es) (own_keys settings label ++ keys)) (sym (append-nil inside))
      (have_both (Open label meaning ∷ []) inside (own_keys settings label) keys (have_open label meaning) (k levels (omega arith)))

  module _ (done : List (List (List ℕ))) where
    pub text_known : (items : List Item) (text : List ℕ) (known : KnownItems) → IsKnownOf settings done items known → IsKnownOf settings done (items ++ TextItem text ∷ []) known
    text_known items text known h = record {
      below = h.below;
      are_known = subst (AreKnownItems settings (items ++ TextItem text ∷ []) known.height) (append-nil (flat done known.rows.items))
          (known_one_more items (TextItem text) known.height known.height (flat done known.rows.items) [] h.are_known (omega arith) (λ levels enough. record { clean = refl; used = refl }));
    }

    pub placeholder_known : (items : List Item) (label : Label) (meaning : Meaning) (old new : KnownItems) (height : ℕ) (keys : List (List ℕ)) → IsKnownOf settings done items old
        → IsKnownText settings (meaning_text meaning) height keys → height < new.height → old.height ≤ new.height
        → AddKeys done old.rows.items new.rows.items (own_keys settings label ++ keys) → IsKnownOf settings done (items ++ PlaceholderItem label meaning ∷ []) new
    placeholder_known items label meaning old new height keys h inside less above added = record {
      below = added.below h.below;
      are_known = subst (AreKnownItems settings (items ++ PlaceholderItem label meaning ∷ []) new.height) (sym added.adds)
          (known_one_more items (PlaceholderItem label meaning) old.height new.height (flat done old.rows.items) (own_keys settings label ++ keys) h.are_known above
          (known_placeholder label meaning height new.height keys inside less));
    }

    pub inline_known : (items : List Item) (label : Label) (text : List ℕ) (old new : KnownItems) → IsKnownOf settings done items old → IsKnownText settings text 0 [] → 0 < new.height → old.height ≤ new.height
        → AddKeys done old.rows.items new.rows.items (own_keys settings label) → IsKnownOf settings done (items ++ PlaceholderItem label (Inline text) ∷ []) new
    inline_known items label text old new h inside some above added =
        placeholder_known items label (Inline text) old new 0 [] h inside some above (subst (AddKeys done old.rows.items new.rows.items) (sym (append-nil (own_keys settings label))) added)

    -- the definition of a name whose part is the whole of it
    pub whole_text_known : (text : List ℕ) (part : KnownPart) → IsKnownPartOf settings done text part → part.stop ≡ None → IsKnownText settings text part.height (part_keys done part.index)
    whole_text_known text part f whole =
        let all : resolve settings text ≡ f.items = subst (λ o. IsCutAt settings text f.items o part.read) whole f.cut in
        known_text text part.height (part_keys done part.index) (subst (λ items. AreKnownItems settings items part.height (part_keys done part.index)) (sym all) f.are_known)

    -- ---- the items of a text, one after another

    -- the first `read` items of a text are known, and `left` has the others
    pub record IsReading (text : List ℕ) (left : List Item) (read : ℕ) (known : KnownItems) : Type 0 where
      pub items : List Item
      pub cut : resolve settings text ≡ items ++ left
      pub many : length items ≡ read
      pub is_known : IsKnownOf settings done items known

    pub reading_starts : (text : List ℕ) (left : List Item) (known : KnownItems) → left ≡ resolve settings text → known.rows.items ≡ [] → IsReading text left 0 known
    reading_starts text left known is none = record {
      items = [];
      cut = sym is;
      many = refl;
      is_known = record {
        below = subst (AreBelow (length done)) (sym none) tt;
        are_known = λ levels high. record { clean = refl; used = sym (ap (flat done) none) };
      };
    }

    pub reading_goes_on : (text : List ℕ) (left rest : List Item) (item : Item) (read more : ℕ) (old new : KnownItems) → left ≡ item ∷ rest → more ≡ read + 1
        → ((items : List Item) → IsKnownOf settings done items old → IsKnownOf settings done (items ++ item ∷ []) new) → IsReading text left read old → IsReading text rest more new
    reading_goes_on text left rest item read more old new cut one known_too h = record {
      items = h.items ++ item ∷ [];
      cut = h.cut ∙ ap (λ left. h.items ++ left) cut ∙ sym (append_assoc h.items (item ∷ []) rest);
      many = omega (arith, length-append h.items (item ∷ []), h.many, one);
      is_known = known_too h.items h.is_known;
    }

    -- the items after the one at which reading stops are those that weren't read
    pub reading_stops : (text : List ℕ) (left rest : List Item) (item : code.Item) (read : ℕ) (old : KnownItems) (found : ReadText) → left ≡ item_view item ∷ rest → found.read ≡ read + 1 → found.stop ≡ Some item
        → ((items : List Item) → IsKnownOf settings done items old → IsKnownOf settings done items found.known) → IsReading text left read old → IsReadOf settings done text found
    reading_stops text left rest item read old found is one stops known_too h =
        let whole : resolve settings text ≡ h.items ++ item_view item ∷ rest = h.cut ∙ ap (λ left. h.items ++ left) is in
        let length_read : length (h.items ++ item_view item ∷ []) ≡ found.read = omega (arith, length-append h.items (item_view item ∷ []), h.many, one) in
        let later : drop found.read (resolve settings text) ≡ rest =
        ap (λ n. drop n (resolve settings text)) (sym length_read)
        ∙ ap (drop (length (h.items ++ item_view item ∷ []))) (whole ∙ sym (append_assoc h.items (item_view item ∷ []) rest))
        ∙ drop-append_seam (h.items ++ item_view item ∷ []) rest in
        record {
          items = h.items;
          cut = subst (λ o. IsCutAt settings text h.items o found.read) (sym stops) (whole ∙ ap (λ rest. h.items ++ item_view item ∷ rest) (sym later));
          is_known = known_too h.items h.is_known;
        }

    pub reading_ends : (text : List ℕ) (left : List Item) (found : ReadText) → left ≡ [] → found.stop ≡ None → IsReading text left found.read found.known → IsReadOf settings done text found
    reading_ends text left found over none h = record {
      items = h.items;
      cut = subst (λ o. IsCutAt settings text h.items o found.read) (sym none) (h.cut ∙ ap (λ left. h.items ++ left) over ∙ append-nil h.items);
      is_known = h.is_known;
    }

-- nothing is left of a definition that is known to its end
pub none_left : {T : Type 0} (o : Option T) (b : Bool) → is_some o ≡ not b → b ≡ true → o ≡ None
none_left None b answer is = refl
none_left (Some x) b answer is = absurd (true≢false (answer ∙ ap not is))

-- ---- one name more

pub nothing_known : (settings : Settings) (parts : KnownParts) → parts.rows.items ≡ [] → IsEmpty parts.by_name → AreKnown settings parts
nothing_known settings parts none empty = record {
  done = [];
  are_keys = subst (λ ps. AreKeysOfParts ps []) (sym none)
      (record { same = refl; each = λ index rows at. absurd (none-some rows at); falls = λ index rows at. absurd (none-some rows at) });
  known = λ name text part at defines. absurd (none-some part (sym (ap (lookup (is_at (λ (key : Bor (List ℕ)). slice_cmp nat_cmp name key.now))) empty) ∙ at));
}

part_stays : (settings : Settings) (done more : List (List (List ℕ))) (text : List ℕ) (part : KnownPart) → IsKnownPartOf settings done text part → IsKnownPartOf settings (done ++ more) text part
part_stays settings done more text part f = record {
  within = omega (arith, f.within, length-append done more);
  items = f.items;
  cut = f.cut;
  are_known = subst (AreKnownItems settings f.items part.height) (sym (get_or_append_left done more [] part.index f.within)) f.are_known;
}

-- the last part
part_of_read : (settings : Settings) (done : List (List (List ℕ))) (text : List ℕ) (found : ReadText) (part : KnownPart) → IsReadOf settings done text found
    → part.index ≡ length done → part.height ≡ found.known.height → part.stop ≡ found.stop → part.read ≡ found.read → IsKnownPartOf settings (done ++ flat done found.known.rows.items ∷ []) text part
part_of_read settings done text found part r last height stop read = record {
  within = omega (arith, length-append done (flat done found.known.rows.items ∷ []), last);
  items = r.items;
  cut = subst (λ o. IsCutAt settings text r.items o part.read) (sym stop) (subst (λ n. IsCutAt settings text r.items found.stop n) (sym read) r.cut);
  are_known = subst (AreKnownItems settings r.items part.height) (sym (get_or_push done (flat done found.known.rows.items) [] part.index (sym last)))
      (subst (λ n. AreKnownItems settings r.items n (flat done found.known.rows.items)) (sym height) r.is_known.are_known);
}

pub name_known : (settings : Settings) (old new : KnownParts) (name text : List ℕ) (found : ReadText) (part : KnownPart) → (known : AreKnown settings old) → finite.get settings.grok.now name ≡ Some text
    → IsReadOf settings known.done text found → part.index ≡ length old.rows.items → part.height ≡ found.known.height → part.stop ≡ found.stop → part.read ≡ found.read → new.rows.items ≡ old.rows.items ++ found.known.rows ∷ []
    → ((other : List ℕ) → known_part_of new.by_name other ≡ cond (bytes_eq name other) (Some part) (known_part_of old.by_name other)) → AreKnown settings new
name_known settings old new name text found part known defined r last height stop read rows updates =
    let done = known.done in
    let keys = flat done found.known.rows.items in
    let own : IsKnownPartOf settings (done ++ keys ∷ []) text part = part_of_read settings done text found part r (last ∙ known.are_keys.same) height stop read in
    record {
      done = done ++ keys ∷ [];
      are_keys = subst (λ parts. AreKeysOfParts parts (done ++ keys ∷ [])) (sym rows) (one_part_more old.rows.items done known.are_keys found.known.rows r.is_known.below);
      known = λ other its found_part at defines. elim (cases_Bool (bytes_eq name other)) [
        | inl same ↦
            let e : name ≡ other = same_text name other same in
            let now : known_part_of new.by_name other ≡ Some part = updates other ∙ ap (λ b. cond b (Some part) (known_part_of old.by_name other)) same in
            let this : Some part ≡ Some found_part = sym now ∙ at in
            let text_is : Some text ≡ Some its = sym defined ∙ ap (λ n. finite.get settings.grok.now n) e ∙ defines in
            let one : part ≡ found_part = cc in
            let two : text ≡ its = cc in
            subst (IsKnownPartOf settings (done ++ keys ∷ []) its) one (subst (λ t. IsKnownPartOf settings (done ++ keys ∷ []) t part) two own)
        | inr apart ↦
            part_stays settings done (keys ∷ []) its found_part
            (known.known other its found_part (sym (updates other ∙ ap (λ b. cond b (Some part) (known_part_of old.by_name other)) apart) ∙ at) defines)
      ];
    }
