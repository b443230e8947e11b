-- The clash that is found in the base keys of a tree is its first fault. If none is found, the first fault is structural.
use Rattle.std.proofs.Common.{◌≡◌, ℕ, Bool, true, false, cond, List, [], ◌∷◌, ◌++◌, map, Option, Some, None, refl, sym, ◌∙◌, ap, subst, arith}
use Rattle.std.specs.Option.{option_map}
use Rattle.grok.specs.Tree.{Label, Meaning, Event, Text, Open, Close, FaultEvent, first_structural, reached}
use Rattle.grok.specs.Keys.{is_capturing, capturing, base_key, numbered, how_often, key_after, keys, is_among, TreeFault, Structural, Clash, first_fault}
use Rattle.grok.specs.steps.CapturedSoFar.{onto, taken_of, after}
use Rattle.grok.specs.FirstFault.{IsFaultAfter, StructuralEvent, ClashingOpen}
use Rattle.grok.specs.steps.KeyUses.{IsFree}
use Rattle.grok.specs.steps.Rows.{uses_in}
use Rattle.grok.specs.steps.FirstClashes.{ClashesAfter, IsFirstClashIn, FindsClash}
use Rattle.grok.specs.steps.TreeClashes.{IsClashIn, FindsFirstClash}
use Rattle.grok.specs.declared.expand.clash_search.FoundClash.{FoundClash}
use Rattle.grok.proofs.Keys.KeysAreDistinct.{how_often_more, other_fault_is_structural}
use Rattle.grok.proofs.Keys.ClashesByUses.{how_often-append, is_taken, clash_is_not_free, free_below, free_events}
use Rattle.grok.proofs.Keys.UsesOfKeys.{how_often_in}
use Rattle.grok.proofs.Keys.FirstFaultAndLastExtract.{capturing-append, how_often_onto, key_onto, among_keys, first_fault_is_first}
use Rattle.grok.proofs.Trees.StepsCompile.{no_structural}

-- ---- the second placeholder of a clash

module _ (labels : List Label) (label : Label) (base : List ℕ) (number : ℕ) where
  -- the label of the second placeholder of a clash, given whether the first one has the key as its alias
  abbrev pub IsSecond : Bool → Type 0
  IsSecond b = ClashesAfter (map base_key labels) (base_key label) base number b

  -- how often its base key was used
  pub own_often : (key : List ℕ) (count : ℕ) → base_key label ≡ key → uses_in (map base_key labels) (base_key label) ≡ count → how_often labels key ≡ count
  own_often key count asks often = how_often_in labels key ∙ ap (uses_in (map base_key labels)) (sym asks) ∙ often

  -- its key
  key_of : (b : Bool) → IsSecond b → key_after labels label ≡ numbered base number
  key_of true s = ap (λ k. numbered k (how_often labels k)) s.0 ∙ ap (numbered base) (own_often base number s.0 s.1)
  key_of false s = ap (λ k. numbered k (how_often labels k)) s.0 ∙ ap (numbered (numbered base number)) (own_often (numbered base number) 0 s.0 s.1)

  -- an earlier placeholder has it
  taken_by : (b : Bool) → IsSecond b → is_among (numbered base number) (keys labels) ≡ true
  taken_by true s =
      among_keys (numbered base number) labels ∙ is_taken (onto [] labels) (numbered base number) 0 (omega (arith, s.2, how_often_in labels (numbered base number), how_often_onto [] labels (numbered base number)))
  taken_by false s =
      among_keys (numbered base number) labels ∙ is_taken (onto [] labels) base number (omega (arith, s.2, how_often_in labels base, how_often_onto [] labels base))

-- ---- lists

head_same : {A : Type 0} (x y : A) (xs ys : List A) → x ∷ xs ≡ y ∷ ys → x ≡ y
head_same x y xs ys e = cc

tail_same : {A : Type 0} (x y : A) (xs ys : List A) → x ∷ xs ≡ y ∷ ys → xs ≡ ys
tail_same x y xs ys e = cc

nothing_cut : {A : Type 0} (before : List A) (x : A) (rest : List A) → [] ≡ before ++ x ∷ rest → ⊥
nothing_cut [] x rest e = cc
nothing_cut (y ∷ before) x rest e = cc

-- ---- what is reached

-- an open before which there is no fault is reached
reached_open : (before : List Event) (label : Label) (meaning : Meaning) (rest : List Event) → first_structural before ≡ None
    → reached (before ++ Open label meaning ∷ rest) ≡ before ++ Open label meaning ∷ reached rest
reached_open [] label meaning rest clean = refl
reached_open (Text text ∷ before) label meaning rest clean = ap (λ es. Text text ∷ es) (reached_open before label meaning rest clean)
reached_open (Close ∷ before) label meaning rest clean = ap (λ es. Close ∷ es) (reached_open before label meaning rest clean)
reached_open (Open l m ∷ before) label meaning rest clean = ap (λ es. Open l m ∷ es) (reached_open before label meaning rest clean)
reached_open (FaultEvent fault ∷ before) label meaning rest clean = cc

module _ (alias_only : Bool) where
  -- the base keys of the capturing placeholders among the events
  abbrev pub base_keys : List Event → List (List ℕ)
  base_keys es = map base_key (capturing alias_only es)

  -- ---- a cut of the base keys is a cut of the events

  -- the events are cut at the open of a capturing placeholder, given its base key and the base keys before it
  pub record IsCutAt (es : List Event) (before : List (List ℕ)) (key : List ℕ) : Type 0 where
    pub read : List Event
    pub label : Label
    pub meaning : Meaning
    pub rest : List Event
    pub cut : es ≡ read ++ Open label meaning ∷ rest
    pub clean : first_structural read ≡ None
    pub captures : is_capturing alias_only label ≡ true
    pub asks : base_key label ≡ key
    pub keys : base_keys read ≡ before

  -- one more event before the cut, which is no fault
  further : (event : Event) (es : List Event) (old new : List (List ℕ)) (key : List ℕ)
      → ((read : List Event) → first_structural read ≡ None → first_structural (event ∷ read) ≡ None)
      → ((read : List Event) → base_keys read ≡ old → base_keys (event ∷ read) ≡ new)
      → IsCutAt es old key → IsCutAt (event ∷ es) new key
  further event es old new key clean more at = record {
    read = event ∷ at.read;
    label = at.label;
    meaning = at.meaning;
    rest = at.rest;
    cut = ap (λ es. event ∷ es) at.cut;
    clean = clean at.read at.clean;
    captures = at.captures;
    asks = at.asks;
    keys = more at.read at.keys;
  }

  module _ (label : Label) (meaning : Meaning) (es : List Event) where
    keys_at_open : (b : Bool) (es : List Event) → is_capturing alias_only label ≡ b → base_keys (Open label meaning ∷ es) ≡ cond b (base_key label ∷ base_keys es) (base_keys es)
    keys_at_open true es is = ap (λ b. map base_key (cond b (label ∷ capturing alias_only es) (capturing alias_only es))) is
    keys_at_open false es is = ap (λ b. map base_key (cond b (label ∷ capturing alias_only es) (capturing alias_only es))) is

    cut_at_open : (before : List (List ℕ)) (key : List ℕ) (rest : List (List ℕ))
        → ((before : List (List ℕ)) → base_keys (reached es) ≡ before ++ key ∷ rest → IsCutAt es before key)
        → (b : Bool) → is_capturing alias_only label ≡ b → cond b (base_key label ∷ base_keys (reached es)) (base_keys (reached es)) ≡ before ++ key ∷ rest → IsCutAt (Open label meaning ∷ es) before key
    cut_at_open [] key rest more true is e = record {
      read = [];
      label = label;
      meaning = meaning;
      rest = es;
      cut = refl;
      clean = refl;
      captures = is;
      asks = head_same (base_key label) key (base_keys (reached es)) rest e;
      keys = refl;
    }
    cut_at_open (first ∷ before) key rest more true is e =
        let same = head_same (base_key label) first (base_keys (reached es)) (before ++ key ∷ rest) e in
        further (Open label meaning) es before (first ∷ before) key (λ read clean. clean)
        (λ read keys. keys_at_open true read is ∙ ap (λ ks. base_key label ∷ ks) keys ∙ ap (λ k. k ∷ before) same)
        (more before (tail_same (base_key label) first (base_keys (reached es)) (before ++ key ∷ rest) e))
    cut_at_open before key rest more false is e =
        further (Open label meaning) es before before key (λ read clean. clean) (λ read keys. keys_at_open false read is ∙ keys) (more before e)

  pub cut_at : (es : List Event) (before : List (List ℕ)) (key : List ℕ) (rest : List (List ℕ)) → base_keys (reached es) ≡ before ++ key ∷ rest → IsCutAt es before key
  cut_at [] before key rest e = absurd (nothing_cut before key rest e)
  cut_at (Text text ∷ es) before key rest e = further (Text text) es before before key (λ read clean. clean) (λ read keys. keys) (cut_at es before key rest e)
  cut_at (Close ∷ es) before key rest e = further Close es before before key (λ read clean. clean) (λ read keys. keys) (cut_at es before key rest e)
  cut_at (FaultEvent fault ∷ es) before key rest e = absurd (nothing_cut before key rest e)
  cut_at (Open label meaning ∷ es) before key rest e =
      cut_at_open label meaning es before key rest (λ before. cut_at es before key rest) (is_capturing alias_only label) refl
      (sym (keys_at_open label meaning es (is_capturing alias_only label) (reached es) refl) ∙ e)

  -- ---- no clash

  -- a clash uses two base keys too often
  not_free : (es before : List Event) (event : Event) (rest : List Event) (tree_fault : TreeFault) (key : List ℕ) → es ≡ before ++ event ∷ rest → first_fault alias_only before ≡ None
      → IsFaultAfter alias_only before event tree_fault → tree_fault ≡ Clash key → IsFree (uses_in (base_keys (reached es))) → ⊥
  not_free es before event rest tree_fault key cut none (StructuralEvent fault) is free = cc
  not_free es before event rest tree_fault key cut none (ClashingOpen label meaning captures among) is free =
      let opens = capturing alias_only before in
      let later = capturing alias_only (reached rest) in
      let taken : is_among (key_after (onto [] opens) label) (taken_of (onto [] opens)) ≡ true =
      ap (λ k. is_among k (taken_of (onto [] opens))) (key_onto opens label) ∙ sym (among_keys (key_after opens label) opens) ∙ among in
      let whole : capturing alias_only (reached es) ≡ opens ++ label ∷ later =
      ap (λ es. capturing alias_only (reached es)) cut ∙ ap (capturing alias_only) (reached_open before label meaning rest (no_structural alias_only before none))
      ∙ capturing-append alias_only before (Open label meaning ∷ reached rest) ∙ ap (λ b. opens ++ cond b (label ∷ later) later) captures in
      clash_is_not_free (onto [] opens) label taken
      (free_below (uses_in (base_keys (reached es))) (how_often (label ∷ onto [] opens))
      (λ k.
      let all : how_often (capturing alias_only (reached es)) k ≡ how_often (opens ++ label ∷ later) k = ap (λ labels. how_often labels k) whole in
      omega (arith, how_often_in (capturing alias_only (reached es)) k, all, how_often-append opens (label ∷ later) k, how_often_more label later k, how_often_more label (onto [] opens) k, how_often_onto [] opens k)) free)

  pub no_clash_if_free : (es : List Event) (keys : List (List ℕ)) → keys ≡ base_keys (reached es) → IsFree (uses_in keys) → first_fault alias_only es ≡ option_map Structural (first_structural es)
  no_clash_if_free es keys same free = other_fault_is_structural alias_only es (λ key first.
      let found = (first_fault_is_first alias_only es).some (Clash key) first in
      not_free es found.before found.event found.after (Clash key) key found.cut ((first_fault_is_first alias_only found.before).clean found.none) found.is refl
      (subst (λ ks. IsFree (uses_in ks)) same free))

  -- ---- the first clash

  pub clash_of_keys : (es : List Event) (clash : FoundClash) (keys : List (List ℕ)) → keys ≡ base_keys (reached es) → IsFirstClashIn keys clash → IsClashIn alias_only es clash
  clash_of_keys es clash keys same f =
      let at = cut_at es f.before f.key f.rest (sym same ∙ f.cut) in
      let opens = capturing alias_only at.read in
      let own : IsFree (how_often (after alias_only [] at.read)) =
      free_below (uses_in f.before) (how_often (after alias_only [] at.read)) (λ k. omega (arith, how_often_onto [] opens k, how_often_in opens k, ap (λ ks. uses_in ks k) at.keys)) f.free in
      record {
        before = at.read;
        label = at.label;
        meaning = at.meaning;
        after = at.rest;
        cut = at.cut;
        captures = at.captures;
        none = free_events alias_only [] at.read at.clean own;
        some = f.some;
        fits = f.fits;
        clashes = subst (λ ks. ClashesAfter ks (base_key at.label) clash.base.now clash.number clash.is_alias_first) (sym at.keys)
            (subst (λ k. ClashesAfter f.before k clash.base.now clash.number clash.is_alias_first) (sym at.asks) f.clashes);
      }

  -- THE THEOREM: what is found in the base keys is the first clash of the tree
  pub finds_first_clash : (es : List Event) (keys : List (List ℕ)) (found : Option FoundClash) → keys ≡ base_keys (reached es) → FindsClash keys found → FindsFirstClash alias_only es found
  finds_first_clash es keys None same free = no_clash_if_free es keys same free
  finds_first_clash es keys (Some clash) same f = clash_of_keys es clash keys same f

  -- ---- the first fault is this clash

  pub clash_is_first : (es : List Event) (clash : FoundClash) → IsClashIn alias_only es clash → first_fault alias_only es ≡ Some (Clash (numbered clash.base.now clash.number))
  clash_is_first es clash c =
      let opens = capturing alias_only c.before in
      let key = numbered clash.base.now clash.number in
      let key_is = key_of opens c.label clash.base.now clash.number clash.is_alias_first c.clashes in
      let among : is_among (key_after opens c.label) (keys opens) ≡ true = ap (λ k. is_among k (keys opens)) key_is ∙ taken_by opens c.label clash.base.now clash.number clash.is_alias_first c.clashes in
      let is : IsFaultAfter alias_only c.before (Open c.label c.meaning) (Clash key) = subst (λ k. IsFaultAfter alias_only c.before (Open c.label c.meaning) (Clash k)) key_is (ClashingOpen c.label c.meaning c.captures among) in
      (first_fault_is_first alias_only es).only (Clash key) (record {
        before = c.before;
        event = Open c.label c.meaning;
        after = c.after;
        cut = c.cut;
        none = (first_fault_is_first alias_only c.before).none c.none;
        is = is;
      })
