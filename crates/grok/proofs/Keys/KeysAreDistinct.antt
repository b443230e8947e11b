-- Without a clash all keys are distinct, and without an alias that ends in a number in brackets nothing
-- clashes.
use Rattle.std.proofs.Common.{◌≡◌, ℕ, zero, suc, ◌+◌, ◌<◌, ◌≤◌, Bool, true, false, cond, List, [], ◌∷◌, ◌++◌, map, Option, Some, None, refl, sym, ◌∙◌, ap, subst, inl, inr, arith, append_assoc}
use Rattle.std.specs.Prelude.{◌==◌}
use Rattle.std.specs.Option.{option_map}
use Rattle.std.specs.List.{AllByRecursion}
use Rattle.std.specs.Int.Digits.{digits_of}
use Rattle.std.specs.Str.{bytes_eq}
use Rattle.std.proofs.lemmas.Bool.{true≢false, cases_eq, cases_Bool, ne_eqb}
use Rattle.std.proofs.lemmas.List.{append_cancel_right}
use Rattle.std.proofs.lemmas.List.Sums.{sum_by-cons}
use Rattle.std.proofs.lemmas.Int.Digits.{all_below_base_digits_of, same_from_digits_of}
use Rattle.grok_parser.specs.Pieces.{is_name_byte, Parts, Piece, Regular, Placeholder, Malformed, pieces}
use Rattle.grok_parser.specs.Grammar.{AllPass, ArePieces}
use Rattle.grok.specs.Tree.{Definitions, no_definitions, with_written, resolved, label_of, items_after, Item, TextItem, FaultItem, PlaceholderItem, items_of, events, inside, deepest, tree, meaning_text, Label, Event, Text, Open, Close, FaultEvent, is_absent, first_structural, reached}
use Rattle.grok.specs.Keys.{is_capturing, base_key, numbered, key_after, keys_after, keys, capturing, how_often, is_among, first_fault_after, Structural, Clash, ends_in_number, has_numbered_alias, AreDistinct, ClashNeedsNumber, KeysAreDistinct}
use Rattle.grok.specs.FirstFault.{OtherFaultIsStructural}
use Rattle.grok.specs.Numeral.{numeral}
use Rattle.grok.specs.steps.CapturedSoFar.{taken_of}
use Rattle.grok.proofs.Keys.NumberedKeysEndInNumber.{numbered_ends}
use Rattle.grok.proofs.Texts.EqualBytesAreSameText.{same_text, text_same}
use Rattle.grok_parser.proofs.PiecesAreUnique.{pieces_are}

-- ---- the last bracket
unfoldable pub opens_bracket : List ℕ → Bool
opens_bracket [] = false
opens_bracket (c ∷ cs) = cond (c == 91) true (opens_bracket cs)

pub in_middle : (xs ys : List ℕ) → opens_bracket (xs ++ 91 ∷ ys) ≡ true
unfolding opens_bracket
in_middle [] ys = refl
in_middle (x ∷ xs) ys = elim (x == 91) as (λ b. cond b true (opens_bracket (xs ++ 91 ∷ ys)) ≡ true) [ true ↦ refl | false ↦ in_middle xs ys ]

pub last_bracket : (a b x y : List ℕ) → opens_bracket x ≡ false → opens_bracket y ≡ false → a ++ (91 ∷ x) ≡ b ++ (91 ∷ y) → (a ≡ b) × (x ≡ y)
last_bracket [] [] x y p q e = (refl, cc)
last_bracket [] (c ∷ b) x y p q e = let t : x ≡ b ++ (91 ∷ y) = cc in absurd (true≢false (sym (in_middle b y) ∙ ap opens_bracket (sym t) ∙ p))
last_bracket (c ∷ a) [] x y p q e = let t : a ++ (91 ∷ x) ≡ y = cc in absurd (true≢false (sym (in_middle a x) ∙ ap opens_bracket t ∙ q))
last_bracket (c ∷ a) (d ∷ b) x y p q e =
    let heads : c ≡ d = cc in
    let tails : a ++ (91 ∷ x) ≡ b ++ (91 ∷ y) = cc in
    let more = last_bracket a b x y p q tails in
    let front : a ≡ b = more.0 in
    (cc, more.1)

digits_plain : (ds : List ℕ) → AllByRecursion (λ d. d < 10) ds → opens_bracket (map (λ digit. 48 + digit) ds ++ 93 ∷ []) ≡ false
unfolding opens_bracket
digits_plain [] h = refl
digits_plain (d ∷ ds) h =
    let low : d < 10 = h.0 in
    let other : ((48 + d) == 91) ≡ false = ne_eqb (48 + d) 91 (λ e. omega arith) in
    rw other (digits_plain ds h.1)

pub numeral_plain : (n : ℕ) → opens_bracket (numeral (suc n) ++ 93 ∷ []) ≡ false
numeral_plain n = digits_plain (digits_of 10 (suc n)) (all_below_base_digits_of 10 (suc n) (omega arith))

same_digits : (xs ys : List ℕ) → map (λ digit. 48 + digit) xs ≡ map (λ digit. 48 + digit) ys → xs ≡ ys
same_digits [] [] e = refl
same_digits [] (y ∷ ys) e = cc
same_digits (x ∷ xs) [] e = cc
same_digits (x ∷ xs) (y ∷ ys) e =
    let heads : 48 + x ≡ 48 + y = cc in
    let first : x ≡ y = omega arith in
    let rest : xs ≡ ys = same_digits xs ys cc in
    cc

same_numeral : (a b : ℕ) → numeral (suc a) ≡ numeral (suc b) → suc a ≡ suc b
same_numeral a b e = same_from_digits_of 10 (suc a) (suc b) (omega arith) (same_digits (digits_of 10 (suc a)) (digits_of 10 (suc b)) e)

-- a numbered key shows its base key and how often that was used before
pub numbered_both : (k l : List ℕ) (c d : ℕ) → numbered k (suc c) ≡ numbered l (suc d) → (k ≡ l) × (suc c ≡ suc d)
numbered_both k l c d e =
    let regroup : (key : List ℕ) (n : ℕ) → numbered key (suc n) ≡ key ++ (91 ∷ (numeral (suc n) ++ 93 ∷ [])) = λ key n. simp append_assoc in
    let both = last_bracket k l (numeral (suc c) ++ 93 ∷ []) (numeral (suc d) ++ 93 ∷ []) (numeral_plain c) (numeral_plain d) (sym (regroup k c) ∙ e ∙ regroup l d) in
    (both.0, same_numeral c d (append_cancel_right (numeral (suc c)) (numeral (suc d)) (93 ∷ []) both.1))

-- if no base key ends in a number in brackets, each numbered key shows its base key
pub numbered_same : (k l : List ℕ) (c d : ℕ) → ends_in_number k ≡ false → ends_in_number l ≡ false → numbered k c ≡ numbered l d → (k ≡ l) × (c ≡ d)
numbered_same k l zero zero p q e = (e, refl)
numbered_same k l zero (suc d) p q e = absurd (true≢false (sym (numbered_ends l d) ∙ ap ends_in_number (sym e) ∙ p))
numbered_same k l (suc c) zero p q e = absurd (true≢false (sym (numbered_ends k c) ∙ ap ends_in_number e ∙ q))
numbered_same k l (suc c) (suc d) p q e = numbered_both k l c d e

-- ---- no clash without a number in brackets
pub how_often_more : (label : Label) (before : List Label) (key : List ℕ) → how_often (label ∷ before) key ≡ cond (bytes_eq (base_key label) key) 1 0 + how_often before key
how_often_more label before key = sum_by-cons (λ earlier. cond (bytes_eq (base_key earlier) key) 1 0) label before

-- labels whose base key doesn't end in a number in brackets
abbrev pub ArePlain : List Label → Type 0
ArePlain [] = Unit {0}
ArePlain (label ∷ labels) = (ends_in_number (base_key label) ≡ false) × ArePlain labels

pub not_taken : (before : List Label) (key : List ℕ) (n : ℕ) → ArePlain before → ends_in_number key ≡ false → how_often before key ≤ n → is_among (numbered key n) (taken_of before) ≡ false
not_taken [] key n plain p few = refl
not_taken (label ∷ before) key n plain p few = elim (cases_Bool (bytes_eq (key_after before label) (numbered key n))) [
  | inl same ↦
      let keys : numbered (base_key label) (how_often before (base_key label)) ≡ numbered key n = same_text (key_after before label) (numbered key n) same in
      let both = numbered_same (base_key label) key (how_often before (base_key label)) n plain.0 p keys in
      let here : bytes_eq (base_key label) key ≡ true = text_same (base_key label) key both.0 in
      let count : how_often before key ≡ n = sym (ap (how_often before) both.0) ∙ both.1 in
      let more : cond (bytes_eq (base_key label) key) 1 0 + how_often before key ≤ n = subst (λ m. m ≤ n) (how_often_more label before key) few in
      let one : cond {A = ℕ} (bytes_eq (base_key label) key) 1 0 ≡ 1 = ap (λ (b : Bool). cond {A = ℕ} b 1 0) here in
      absurd (omega arith)
  | inr other ↦
      let more : cond (bytes_eq (base_key label) key) 1 0 + how_often before key ≤ n = subst (λ m. m ≤ n) (how_often_more label before key) few in
      rw other (not_taken before key n plain.1 p (omega arith))
]

pub name_ends : (name : List ℕ) → AllPass is_name_byte name → ends_in_number name ≡ false
name_ends [] h = refl
name_ends (c ∷ cs) h = elim (cases_eq c 91) [
  | inl e ↦
      let bad : is_name_byte 91 ≡ true = subst (λ d. is_name_byte d ≡ true) e h.0 in
      cc
  | inr ne ↦ rw (ne_eqb c 91 ne) (name_ends cs h.1)
]

plain_base_key : (alias name : List ℕ) → AllPass is_name_byte name → ends_in_number alias ≡ false → ends_in_number (cond (is_absent alias) name alias) ≡ false
plain_base_key [] name named plain = name_ends name named
plain_base_key (c ∷ cs) name named plain = plain

-- each placeholder has a name of these characters
abbrev pub AreNamed : List Event → Type 0
AreNamed [] = Unit {0}
AreNamed (Text text ∷ events) = AreNamed events
AreNamed (Close ∷ events) = AreNamed events
AreNamed (FaultEvent fault ∷ events) = AreNamed events
AreNamed (Open label meaning ∷ events) = AllPass is_name_byte label.name × AreNamed events

abbrev HaveNames : List Item → Type 0
HaveNames [] = Unit {0}
HaveNames (TextItem text ∷ items) = HaveNames items
HaveNames (FaultItem fault ∷ items) = HaveNames items
HaveNames (PlaceholderItem label meaning ∷ items) = AllPass is_name_byte label.name × HaveNames items

no_clash : (alias_only : Bool) (before : List Label) (tree : List Event) → ArePlain before → AreNamed tree → has_numbered_alias (reached tree) ≡ false
    → first_fault_after alias_only before (taken_of before) tree ≡ option_map Structural (first_structural tree)
no_clash alias_only before [] plain named quiet = refl
no_clash alias_only before (Text text ∷ es) plain named quiet = no_clash alias_only before es plain named quiet
no_clash alias_only before (Close ∷ es) plain named quiet = no_clash alias_only before es plain named quiet
no_clash alias_only before (FaultEvent fault ∷ es) plain named quiet = refl
no_clash alias_only before (Open label meaning ∷ es) plain named quiet =
    let split : (b : Bool) → cond b true (has_numbered_alias (reached es)) ≡ false → (b ≡ false) × (has_numbered_alias (reached es) ≡ false) = λ b. elim b as (λ v. cond v true (has_numbered_alias (reached es)) ≡ false → (v ≡ false) × (has_numbered_alias (reached es) ≡ false)) [ true ↦ λ h. cc | false ↦ λ h. (refl, h) ] in
    let parts = split (ends_in_number label.alias) quiet in
    let base_is_plain : ends_in_number (base_key label) ≡ false = plain_base_key label.alias label.name named.0 parts.0 in
    let free : is_among (key_after before label) (taken_of before) ≡ false =
    not_taken before (base_key label) (how_often before (base_key label)) plain base_is_plain (omega arith) in
    let one = no_clash alias_only (label ∷ before) es (base_is_plain, plain) named.1 parts.1 in
    let none = no_clash alias_only before es plain named.1 parts.1 in
    elim (is_capturing alias_only label) as (λ b. cond b (cond (is_among (key_after before label) (taken_of before)) (Some (Clash (key_after before label))) (first_fault_after alias_only (label ∷ before) (key_after before label ∷ taken_of before) es)) (first_fault_after alias_only before (taken_of before) es) ≡ option_map Structural (first_structural es)) [
      | true ↦ rw free one
      | false ↦ none
    ]

named-append : (xs ys : List Event) → AreNamed xs → AreNamed ys → AreNamed (xs ++ ys)
named-append [] ys p q = q
named-append (Text text ∷ xs) ys p q = named-append xs ys p q
named-append (Close ∷ xs) ys p q = named-append xs ys p q
named-append (FaultEvent fault ∷ xs) ys p q = named-append xs ys p q
named-append (Open label meaning ∷ xs) ys p q = (p.0, named-append xs ys p.1 q)

named_events : (inner : List ℕ → List Event) → ((text : List ℕ) → AreNamed (inner text)) → (items : List Item) → HaveNames items → AreNamed (events inner items)
named_events inner h [] p = tt
named_events inner h (TextItem text ∷ items) p = named_events inner h items p
named_events inner h (FaultItem fault ∷ items) p = named_events inner h items p
named_events inner h (PlaceholderItem label meaning ∷ items) p = (p.0, named-append (inner (meaning_text meaning)) (events inner items) (h (meaning_text meaning)) (named_events inner h items p.1))

named_opened : (parts : Parts) (written stored : Option (List ℕ)) (items : List Item) → AllPass is_name_byte parts.name → HaveNames items → HaveNames (resolved (label_of parts) written stored ∷ items)
named_opened parts (Some text) stored items named rest = (named, rest)
named_opened parts None (Some text) items named rest = (named, rest)
named_opened parts None None items named rest = rest

named_items : (stored written : Definitions) (T : List ℕ) (s : ℕ) (ps : List Piece) → ArePieces T s ps → HaveNames (items_after stored written ps)
named_items stored written T s [] h = tt
named_items stored written T s (Regular a e text ∷ ps) h = named_items stored written T e ps h.3
named_items stored written T s (Placeholder a e text parts ∷ ps) h =
    named_opened parts (with_written written parts parts.name) (stored parts.name) (items_after stored (with_written written parts) ps) h.1.reads.named
    (named_items stored (with_written written parts) T e ps h.3)
named_items stored written T s (Malformed f ∷ ps) h = rw h.0 tt

named_text : (stored : Definitions) (text : List ℕ) → HaveNames (items_of stored text)
named_text stored text = named_items stored no_definitions text 0 (pieces text) (pieces_are text)

named_inside : (stored : Definitions) (levels : ℕ) (text : List ℕ) → AreNamed (inside (items_of stored) levels text)
named_inside stored zero text = tt
named_inside stored (suc levels) text =
    named-append (events (inside (items_of stored) levels) (items_of stored text)) (Close ∷ [])
    (named_events (inside (items_of stored) levels) (named_inside stored levels) (items_of stored text) (named_text stored text)) tt

pub named_tree : (stored : Definitions) (pattern : List ℕ) → AreNamed (tree stored pattern)
unfolding tree
named_tree stored pattern = named_events (inside (items_of stored) deepest) (named_inside stored deepest) (items_of stored pattern) (named_text stored pattern)

pub clash_needs_number : ClashNeedsNumber
clash_needs_number alias_only stored pattern quiet = no_clash alias_only [] (tree stored pattern) tt (named_tree stored pattern) quiet

-- ---- another fault than a clash

structural_after : (alias_only : Bool) (before : List Label) (taken : List (List ℕ)) (tree : List Event)
    → ((key : List ℕ) → first_fault_after alias_only before taken tree ≡ Some (Clash key) → ⊥)
    → first_fault_after alias_only before taken tree ≡ option_map Structural (first_structural tree)
structural_after alias_only before taken [] h = refl
structural_after alias_only before taken (Text text ∷ es) h = structural_after alias_only before taken es h
structural_after alias_only before taken (Close ∷ es) h = structural_after alias_only before taken es h
structural_after alias_only before taken (FaultEvent fault ∷ es) h = refl
structural_after alias_only before taken (Open label meaning ∷ es) h =
    let here = key_after before label in
    let inside = first_fault_after alias_only (label ∷ before) (here ∷ taken) es in
    let outside = first_fault_after alias_only before taken es in
    elim (is_capturing alias_only label) as (λ b. ((key : List ℕ) → cond b (cond (is_among here taken) (Some (Clash here)) inside) outside ≡ Some (Clash key) → ⊥)
    → cond b (cond (is_among here taken) (Some (Clash here)) inside) outside ≡ option_map Structural (first_structural es)) [
      | true ↦ λ g. elim (cases_Bool (is_among here taken)) [
        | inl clash ↦ absurd (g here (ap (λ b. cond b (Some (Clash here)) inside) clash))
        | inr free ↦ ap (λ b. cond b (Some (Clash here)) inside) free ∙ structural_after alias_only (label ∷ before) (here ∷ taken) es (λ key e. g key (ap (λ b. cond b (Some (Clash here)) inside) free ∙ e))
      ]
      | false ↦ λ g. structural_after alias_only before taken es g
    ] h

pub other_fault_is_structural : OtherFaultIsStructural
other_fault_is_structural alias_only tree h = structural_after alias_only [] [] tree h

-- ---- keys are distinct
-- none of the keys is among those that are taken, or those before it in the list
abbrev ArriveApart : List (List ℕ) → List (List ℕ) → Type 0
ArriveApart taken [] = Unit {0}
ArriveApart taken (key ∷ keys) = (is_among key taken ≡ false) × ArriveApart (key ∷ taken) keys

taken_never : (taken keys : List (List ℕ)) (key : List ℕ) → ArriveApart taken keys → is_among key taken ≡ true → is_among key keys ≡ false
taken_never taken [] key apart there = refl
taken_never taken (first ∷ rest) key apart there = elim (cases_Bool (bytes_eq first key)) [
  | inl same ↦ absurd (true≢false (sym there ∙ ap (λ k. is_among k taken) (sym (same_text first key same)) ∙ apart.0))
  | inr other ↦ rw other (taken_never (first ∷ taken) rest key apart.1 (elim (bytes_eq first key) as (λ b. cond b true (is_among key taken) ≡ true) [ true ↦ refl | false ↦ there ]))
]

distinct_from : (taken keys : List (List ℕ)) → ArriveApart taken keys → AreDistinct keys
distinct_from taken [] apart = tt
distinct_from taken (key ∷ keys) apart = (
  taken_never (key ∷ taken) keys key apart.1 (ap (λ b. cond b true (is_among key taken)) (text_same key key refl)),
  distinct_from (key ∷ taken) keys apart.1,
)

arrive : (alias_only : Bool) (before : List Label) (taken : List (List ℕ)) (tree : List Event) → ((key : List ℕ) → first_fault_after alias_only before taken tree ≡ Some (Clash key) → ⊥)
    → ArriveApart taken (keys_after before (capturing alias_only (reached tree)))
arrive alias_only before taken [] h = tt
arrive alias_only before taken (Text text ∷ es) h = arrive alias_only before taken es h
arrive alias_only before taken (Close ∷ es) h = arrive alias_only before taken es h
arrive alias_only before taken (FaultEvent fault ∷ es) h = tt
arrive alias_only before taken (Open label meaning ∷ es) h =
    let here = key_after before label in
    elim (is_capturing alias_only label) as (λ b. ((key : List ℕ) → cond b (cond (is_among here taken) (Some (Clash here)) (first_fault_after alias_only (label ∷ before) (here ∷ taken) es)) (first_fault_after alias_only before taken es) ≡ Some (Clash key) → ⊥)
    → ArriveApart taken (keys_after before (cond b (label ∷ capturing alias_only (reached es)) (capturing alias_only (reached es))))) [
      | true ↦ λ g. elim (cases_Bool (is_among here taken)) [
        | inl clash ↦ absurd (g here (ap (λ b. cond b (Some (Clash here)) (first_fault_after alias_only (label ∷ before) (here ∷ taken) es)) clash))
        | inr free ↦ (free, arrive alias_only (label ∷ before) (here ∷ taken) es (λ key e. g key (ap (λ b. cond b (Some (Clash here)) (first_fault_after alias_only (label ∷ before) (here ∷ taken) es)) free ∙ e)))
      ]
      | false ↦ λ g. arrive alias_only before taken es g
    ] h

pub keys_are_distinct : KeysAreDistinct
keys_are_distinct alias_only tree h = distinct_from [] (keys (capturing alias_only (reached tree))) (arrive alias_only [] [] tree h)
