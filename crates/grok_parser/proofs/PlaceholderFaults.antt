-- The faults that the parser finds in a placeholder are those of the grammar.
use Rattle.std.proofs.Common.{◌≡◌, ℕ, Bool, true, false, cond, List, [], ◌∷◌, length, Result, Ok, Err, not, ◌==◌, ◌&&◌, slice_index, drop, refl, sym, ap, ◌∙◌, subst, arith, ◌⊎◌, inl, inr, ⊎_elim}
use Rattle.std.specs.List.{prefix_len, take_while, before_first, position_or_len}
use Rattle.std.specs.Str.{chars}
use Rattle.std.proofs.lemmas.Bool.{eqb-true, false≢true}
use Rattle.std.proofs.lemmas.Bool.Decides.{nat_tests}
use Rattle.grok_parser.specs.declared.malformed.GrokPatternError.{GrokPatternError}
use Rattle.grok_parser.specs.declared.malformed.GrokPatternError.TheVariants.{InvalidCharacter, InvalidPattern, InvalidPatternDefinition}
use Rattle.grok_parser.specs.Pieces.{◌>>=◌, is_name_byte, is_alias_byte, is_terminator, is_brace, is_empty, word_at, Word, definition_end, definition_at, Inside, close_at, extract_at, alias_at, placeholder_at}
use Rattle.grok_parser.specs.Grammar.{NonePass, WordKind, NameWord, AliasWord, ExtractWord, FourthWord, is_legal, word_of, after_word, IsWordFault, Ends, Odd, NoName, TooMany, NoExtract, NoAlias, HasDefinition, IsFaultFrom, Here, Later, Undefined, IsFault}
use Rattle.grok_parser.proofs.RestIsSuffix.{definition_at_found}
use Rattle.grok_parser.proofs.WrittenPlaceholderIsRead.{definition_at_reads}
use Rattle.grok_parser.proofs.ReadPlaceholderIsWritten.{NonePass-before_first}

abbrev fourth_at : List ℕ → Result Inside GrokPatternError
fourth_at text = word_at is_alias_byte text >>= λ _. Err InvalidPattern

-- ---- a word, by what follows it

word_at_ends : (p : ℕ → Bool) (text : List ℕ) → drop (prefix_len p text) text ≡ [] → word_at p text ≡ Err InvalidPattern
unfolding word_at
word_at_ends p text e = rw e refl

word_at_odd : (p : ℕ → Bool) (text : List ℕ) (b c : ℕ) (more : List ℕ) → drop (prefix_len p text) text ≡ b ∷ more → is_terminator b ≡ false → slice_index (chars (drop (prefix_len p text) text)) 0 ≡ c → word_at p text ≡ Err (InvalidCharacter c)
unfolding word_at
word_at_odd p text b c more e t g =
    let h : slice_index (chars (b ∷ more)) 0 ≡ c = ap (λ xs. slice_index (chars xs) 0) (sym e) ∙ g in
    rw e (rw t (rw h refl))

word_at_good : (p : ℕ → Bool) (text : List ℕ) (b : ℕ) (more : List ℕ) → drop (prefix_len p text) text ≡ b ∷ more → is_terminator b ≡ true → word_at p text ≡ Ok (record { word = take_while p text; terminator = b; rest = more })
unfolding word_at
word_at_good p text b more e t = rw e (rw t refl)

-- ---- a fault of the grammar is the one that reading finds

empty_of : (word : List ℕ) → word ≡ [] → is_empty word ≡ true
empty_of word e = rw e refl

placeholder_word_fault : (text : List ℕ) (f : GrokPatternError) → IsWordFault NameWord text f → placeholder_at text ≡ Err f
unfolding placeholder_at
placeholder_word_fault text _ (Ends e) = rw (word_at_ends is_name_byte text e) refl
placeholder_word_fault text _ (Odd c b more e t g) = rw (word_at_odd is_name_byte text b c more e t g) refl
placeholder_word_fault text _ (NoName b more z e t n) = rw (word_at_good is_name_byte text b more e t) (rw (empty_of _ n) refl)
placeholder_word_fault text _ (TooMany b more z e t) = cc
placeholder_word_fault text _ (NoExtract b more z e t n) = cc
placeholder_word_fault text _ (NoAlias b more z e t n) = cc

alias_word_fault : (name text : List ℕ) (f : GrokPatternError) → IsWordFault AliasWord text f → alias_at name text ≡ Err f
unfolding alias_at
alias_word_fault name text _ (Ends e) = rw (word_at_ends is_alias_byte text e) refl
alias_word_fault name text _ (Odd c b more e t g) = rw (word_at_odd is_alias_byte text b c more e t g) refl
alias_word_fault name text _ (NoName b more z e t n) = cc
alias_word_fault name text _ (TooMany b more z e t) = cc
alias_word_fault name text _ (NoExtract b more z e t n) = cc
alias_word_fault name text _ (NoAlias b more z e (inl t) n) = rw (word_at_good is_alias_byte text b more e (rw t refl)) (rw t (rw (empty_of _ n) refl))
alias_word_fault name text _ (NoAlias b more z e (inr t) n) = rw (word_at_good is_alias_byte text b more e (rw t refl)) (rw t (rw (empty_of _ n) refl))

extract_word_fault : (name alias text : List ℕ) (f : GrokPatternError) → IsWordFault ExtractWord text f → extract_at name alias text ≡ Err f
unfolding extract_at
extract_word_fault name alias text _ (Ends e) = rw (word_at_ends is_alias_byte text e) refl
extract_word_fault name alias text _ (Odd c b more e t g) = rw (word_at_odd is_alias_byte text b c more e t g) refl
extract_word_fault name alias text _ (NoName b more z e t n) = cc
extract_word_fault name alias text _ (TooMany b more z e t) = cc
extract_word_fault name alias text _ (NoExtract b more z e t n) = rw (word_at_good is_alias_byte text b more e t) (rw (empty_of _ n) refl)
extract_word_fault name alias text _ (NoAlias b more z e t n) = cc

-- the fourth word, which is always a fault
fourth_word_fault : (text : List ℕ) (f : GrokPatternError) → IsWordFault FourthWord text f → fourth_at text ≡ Err f
fourth_word_fault text _ (Ends e) = rw (word_at_ends is_alias_byte text e) refl
fourth_word_fault text _ (Odd c b more e t g) = rw (word_at_odd is_alias_byte text b c more e t g) refl
fourth_word_fault text _ (NoName b more z e t n) = cc
fourth_word_fault text _ (TooMany b more z e t) = rw (word_at_good is_alias_byte text b more e t) refl
fourth_word_fault text _ (NoExtract b more z e t n) = cc
fourth_word_fault text _ (NoAlias b more z e t n) = cc

definition_end_err : (definition rest : List ℕ) (f : GrokPatternError) → definition_end definition rest ≡ Err f → f ≡ InvalidPatternDefinition
definition_end_err definition [] f e = cc
definition_end_err definition (b ∷ bs) f e = by_test (b == 125 && not (length definition == 0)) (definition, bs) f e
  where
    by_test : (t : Bool) (d : List ℕ × List ℕ) (f : GrokPatternError) → cond t (Ok d) (Err InvalidPatternDefinition) ≡ Err f → f ≡ InvalidPatternDefinition
    by_test true d f e = cc
    by_test false d f e = cc

definition_undefined_by : (text : List ℕ) → (HasDefinition text → ⊥) → (r : Result (List ℕ × List ℕ) GrokPatternError) → definition_at text ≡ r → r ≡ Err InvalidPatternDefinition
unfolding definition_at
definition_undefined_by text h (Ok d) e =
    let f = definition_at_found text d e in
    absurd (h (record {
      definition = d.0;
      rest = d.1;
      spelled = f.spelled;
      no_brace = subst (NonePass is_brace) (sym f.longest) (NonePass-before_first is_brace text);
      some = f.some;
    }))
definition_undefined_by text h (Err f) e = ap (λ x. Err x) (definition_end_err (before_first is_brace text) (drop (position_or_len is_brace text) text) f e)

definition_undefined : (text : List ℕ) → (HasDefinition text → ⊥) → definition_at text ≡ Err InvalidPatternDefinition
definition_undefined text h = definition_undefined_by text h (definition_at text) refl

close_undefined : (name alias extract text : List ℕ) → (HasDefinition text → ⊥) → close_at name alias extract 61 text ≡ Err InvalidPatternDefinition
unfolding close_at
close_undefined name alias extract text h = rw (definition_undefined text h) refl

not_empty : (word : List ℕ) → (word ≡ [] → ⊥) → is_empty word ≡ false
not_empty [] n = absurd (n refl)
not_empty (b ∷ bs) n = grind (arith, nat_tests)

fault_fourth : (text : List ℕ) (f : GrokPatternError) → IsFaultFrom FourthWord text f → fourth_at text ≡ Err f
fault_fourth text f (Here _ _ _ w) = fourth_word_fault text f w
fault_fourth text f (Later _ _ _ more clean e r) = absurd (clean _ (TooMany 58 more refl e refl))
fault_fourth text _ (Undefined _ _ more clean e r) = absurd (clean _ (TooMany 61 more refl e refl))

fault_extract : (name alias text : List ℕ) (f : GrokPatternError) → IsFaultFrom ExtractWord text f → extract_at name alias text ≡ Err f
unfolding extract_at
fault_extract name alias text f (Here _ _ _ w) = extract_word_fault name alias text f w
fault_extract name alias text f (Later _ _ _ more clean e r) =
    rw (word_at_good is_alias_byte text 58 more e refl) (rw (not_empty (word_of ExtractWord text) (λ n. clean _ (NoExtract 58 more refl e refl n))) (fault_fourth more f r))
fault_extract name alias text _ (Undefined _ _ more clean e r) =
    rw (word_at_good is_alias_byte text 61 more e refl) (rw (not_empty (word_of ExtractWord text) (λ n. clean _ (NoExtract 61 more refl e refl n))) (close_undefined name alias (word_of ExtractWord text) more r))

fault_alias : (name text : List ℕ) (f : GrokPatternError) → IsFaultFrom AliasWord text f → alias_at name text ≡ Err f
unfolding alias_at
fault_alias name text f (Here _ _ _ w) = alias_word_fault name text f w
fault_alias name text f (Later _ _ _ more clean e r) =
    rw (word_at_good is_alias_byte text 58 more e refl) (fault_extract name (word_of AliasWord text) more f r)
fault_alias name text _ (Undefined _ _ more clean e r) =
    rw (word_at_good is_alias_byte text 61 more e refl) (rw (not_empty (word_of AliasWord text) (λ n. clean _ (NoAlias 61 more refl e (inr refl) n))) (close_undefined name (word_of AliasWord text) [] more r))

pub fault_is_read : (text : List ℕ) (f : GrokPatternError) → IsFault text f → placeholder_at text ≡ Err f
unfolding placeholder_at
fault_is_read text f (Here _ _ _ w) = placeholder_word_fault text f w
fault_is_read text f (Later _ _ _ more clean e r) =
    rw (word_at_good is_name_byte text 58 more e refl) (rw (not_empty (word_of NameWord text) (λ n. clean _ (NoName 58 more refl e refl n))) (fault_alias (word_of NameWord text) more f r))
fault_is_read text _ (Undefined _ _ more clean e r) =
    rw (word_at_good is_name_byte text 61 more e refl) (rw (not_empty (word_of NameWord text) (λ n. clean _ (NoName 61 more refl e refl n))) (close_undefined (word_of NameWord text) [] [] more r))

-- ---- the fault that reading finds is one of the grammar

cond_is : {A : Type 0} (b : Bool) (q r s : A) → cond b q r ≡ s → ((b ≡ true) × (q ≡ s)) ⊎ ((b ≡ false) × (r ≡ s))
cond_is true q r s e = inl (refl, e)
cond_is false q r s e = inr (refl, e)

err_same : {A : Type 0} (f g : GrokPatternError) → ◌≡◌ {A = Result A GrokPatternError} (Err f) (Err g) → f ≡ g
err_same f g e = cc

bind_err : {A B : Type 0} (r : Result A GrokPatternError) (k : A → Result B GrokPatternError) (f : GrokPatternError) → (r >>= k) ≡ Err f → (r ≡ Err f) ⊎ ((x : A) × (r ≡ Ok x) × (k x ≡ Err f))
bind_err (Ok x) k f e = inr (x, refl, e)
bind_err (Err g) k f e = inl (ap (λ x. Err x) (err_same g f e))

bind_good : {A B : Type 0} (r : Result A GrokPatternError) (k : A → Result B GrokPatternError) (x : A) → r ≡ Ok x → (r >>= k) ≡ k x
bind_good r k x e = rw e refl

bind_bad : {A B : Type 0} (r : Result A GrokPatternError) (k : A → Result B GrokPatternError) (f : GrokPatternError) → r ≡ Err f → (r >>= k) ≡ Err f
bind_bad r k f e = rw e refl

record GoodWord (kind : WordKind) (text : List ℕ) : Type 0 where
  byte : ℕ
  more : List ℕ
  stands : after_word kind text ≡ byte ∷ more
  ends : is_terminator byte ≡ true
  reads : word_at (is_legal kind) text ≡ Ok (record { word = word_of kind text; terminator = byte; rest = more })

word_cases_by : (kind : WordKind) (text xs : List ℕ) → after_word kind text ≡ xs → ((f : GrokPatternError) × IsWordFault kind text f × (word_at (is_legal kind) text ≡ Err f)) ⊎ GoodWord kind text
word_cases_by kind text [] e = inl (InvalidPattern, Ends e, word_at_ends (is_legal kind) text e)
word_cases_by kind text (b ∷ more) e = by_test (is_terminator b) refl
  where
    by_test : (t : Bool) → is_terminator b ≡ t → ((f : GrokPatternError) × IsWordFault kind text f × (word_at (is_legal kind) text ≡ Err f)) ⊎ GoodWord kind text
    by_test true t = inr (record { byte = b; more = more; stands = e; ends = t; reads = word_at_good (is_legal kind) text b more e t })
    by_test false t = inl (InvalidCharacter (slice_index (chars (after_word kind text)) 0), Odd _ b more e t refl, word_at_odd (is_legal kind) text b _ more e t refl)

word_cases : (kind : WordKind) (text : List ℕ) → ((f : GrokPatternError) × IsWordFault kind text f × (word_at (is_legal kind) text ≡ Err f)) ⊎ GoodWord kind text
word_cases kind text = word_cases_by kind text (after_word kind text) refl

heads : (a b : ℕ) (x y : List ℕ) → (a ∷ x) ≡ b ∷ y → a ≡ b
heads a b x y e = cc

clean_by : (kind : WordKind) (text : List ℕ) (w : GoodWord kind text) → (kind ≡ NameWord → word_of kind text ≡ [] → ⊥) → (kind ≡ FourthWord → ⊥) → (kind ≡ ExtractWord → word_of kind text ≡ [] → ⊥) → (kind ≡ AliasWord → (w.byte ≡ 125) ⊎ (w.byte ≡ 61) → word_of kind text ≡ [] → ⊥) → (g : GrokPatternError) → IsWordFault kind text g → ⊥
clean_by kind text w n m x a _ (Ends e) = let s = w.stands in cc
clean_by kind text w n m x a _ (Odd c b more e t g) = false≢true (sym t ∙ (ap is_terminator (heads b w.byte more w.more (sym e ∙ w.stands)) ∙ w.ends))
clean_by kind text w n m x a _ (NoName b more z e t k) = n z k
clean_by kind text w n m x a _ (TooMany b more z e t) = m z
clean_by kind text w n m x a _ (NoExtract b more z e t k) = x z k
clean_by kind text w n m x a _ (NoAlias b more z e t k) =
    let same = heads w.byte b w.more more (sym w.stands ∙ e) in a z (⊎_elim (λ h. inl (same ∙ h)) (λ h. inr (same ∙ h)) t) k

-- an error after the last word
close_at_err : (name alias extract : List ℕ) (t : ℕ) (rest : List ℕ) (f : GrokPatternError) → close_at name alias extract t rest ≡ Err f → is_terminator t ≡ true → (t == 58) ≡ false → (t ≡ 61) × (f ≡ InvalidPatternDefinition) × (HasDefinition rest → ⊥)
unfolding close_at definition_at
close_at_err name alias extract t rest f e o n =
    ⊎_elim (λ h. let g = h.1 in cc)
    (λ h.
    let byte : t ≡ 61 = grind (arith, nat_tests, o, n, h.0) in
    ⊎_elim
    (λ g. (
      byte,
      definition_end_err (before_first is_brace rest) (drop (position_or_len is_brace rest) rest) f g,
      λ d. let ok = definition_at_reads d.definition d.rest d.no_brace d.some in let both = sym (ap definition_at d.spelled ∙ ok) ∙ g in cc,
    ))
    (λ g. let k = g.2 in cc)
    (bind_err (definition_at rest) _ f h.1))
    (cond_is (t == 125) _ _ _ e)

-- the fault of a word that has one
fault_here : (kind : WordKind) (text : List ℕ) (k : Word → Result Inside GrokPatternError) (f : GrokPatternError) → (word_at (is_legal kind) text >>= k) ≡ Err f → (h : (g : GrokPatternError) × IsWordFault kind text g × (word_at (is_legal kind) text ≡ Err g)) → IsFaultFrom kind text f
fault_here kind text k f e h = subst (λ g. IsFaultFrom kind text g) (err_same h.0 f (sym (bind_bad _ k h.0 h.2) ∙ e)) (Here kind text h.0 h.1)

-- what is read after a word without a fault
goes_on : (kind : WordKind) (text : List ℕ) (k : Word → Result Inside GrokPatternError) (f : GrokPatternError) → (word_at (is_legal kind) text >>= k) ≡ Err f → (w : GoodWord kind text) → k (record { word = word_of kind text; terminator = w.byte; rest = w.more }) ≡ Err f
goes_on kind text k f e w = sym (bind_good _ k _ w.reads) ∙ e

nil_from_empty : (word : List ℕ) → is_empty word ≡ true → word ≡ []
nil_from_empty [] e = refl
nil_from_empty (b ∷ bs) e = absurd (omega (arith, eqb-true (length (b ∷ bs)) 0 e))

empty_no : (word : List ℕ) → is_empty word ≡ false → word ≡ [] → ⊥
empty_no word e n = false≢true (sym e ∙ empty_of word n)

byte_after_word : (kind : WordKind) (text : List ℕ) (w : GoodWord kind text) (b : ℕ) → w.byte ≡ b → after_word kind text ≡ b ∷ w.more
byte_after_word kind text w b e = w.stands ∙ ap (λ x. x ∷ w.more) e

read_fourth : (text : List ℕ) (f : GrokPatternError) → fourth_at text ≡ Err f → IsFaultFrom FourthWord text f
read_fourth text f e = ⊎_elim (fault_here FourthWord text (λ _. Err InvalidPattern) f e)
    (λ w. subst (λ g. IsFaultFrom FourthWord text g) (err_same InvalidPattern f (goes_on FourthWord text (λ _. Err InvalidPattern) f e w)) (Here FourthWord text InvalidPattern (TooMany w.byte w.more refl w.stands w.ends)))
    (word_cases FourthWord text)

read_extract : (name alias text : List ℕ) (f : GrokPatternError) → extract_at name alias text ≡ Err f → IsFaultFrom ExtractWord text f
unfolding extract_at
read_extract name alias text f e = ⊎_elim (fault_here ExtractWord text _ f e)
    (λ w. let k = goes_on ExtractWord text _ f e w in
    ⊎_elim (λ h. subst (λ g. IsFaultFrom ExtractWord text g) (err_same InvalidPatternDefinition f h.1) (Here ExtractWord text InvalidPatternDefinition (NoExtract w.byte w.more refl w.stands w.ends (nil_from_empty _ h.0))))
    (λ h. let clean = clean_by ExtractWord text w (λ z. cc) (λ z. cc) (λ _. empty_no (word_of ExtractWord text) h.0) (λ z. cc) in
    ⊎_elim (λ g. Later ExtractWord text f w.more clean (byte_after_word ExtractWord text w 58 (eqb-true w.byte 58 g.0)) (read_fourth w.more f g.1))
    (λ g. let c = close_at_err name alias (word_of ExtractWord text) w.byte w.more f g.1 w.ends g.0 in
    subst (λ g. IsFaultFrom ExtractWord text g) (sym c.1) (Undefined ExtractWord text w.more clean (byte_after_word ExtractWord text w 61 c.0) c.2))
    (cond_is (w.byte == 58) _ _ _ h.1))
    (cond_is (is_empty (word_of ExtractWord text)) _ _ _ k))
    (word_cases ExtractWord text)

read_alias : (name text : List ℕ) (f : GrokPatternError) → alias_at name text ≡ Err f → IsFaultFrom AliasWord text f
unfolding alias_at
read_alias name text f e = ⊎_elim (fault_here AliasWord text _ f e)
    (λ w. let k = goes_on AliasWord text _ f e w in
    ⊎_elim
    (λ g. let colon = eqb-true w.byte 58 g.0 in
    let clean = clean_by AliasWord text w (λ z. cc) (λ z. cc) (λ z. cc) (λ z t. absurd (⊎_elim (λ u. omega arith) (λ u. omega arith) t)) in
    Later AliasWord text f w.more clean (byte_after_word AliasWord text w 58 colon) (read_extract name (word_of AliasWord text) w.more f g.1))
    (λ g.
    let last : (w.byte ≡ 125) ⊎ (w.byte ≡ 61) = grind (arith, nat_tests, w.ends, g.0) in
    ⊎_elim (λ h. subst (λ g. IsFaultFrom AliasWord text g) (err_same InvalidPatternDefinition f h.1) (Here AliasWord text InvalidPatternDefinition (NoAlias w.byte w.more refl w.stands last (nil_from_empty _ h.0))))
    (λ h. let clean = clean_by AliasWord text w (λ z. cc) (λ z. cc) (λ z. cc) (λ _ _. empty_no (word_of AliasWord text) h.0) in
    let c = close_at_err name (word_of AliasWord text) [] w.byte w.more f h.1 w.ends g.0 in
    subst (λ g. IsFaultFrom AliasWord text g) (sym c.1) (Undefined AliasWord text w.more clean (byte_after_word AliasWord text w 61 c.0) c.2))
    (cond_is (is_empty (word_of AliasWord text)) _ _ _ g.1))
    (cond_is (w.byte == 58) _ _ _ k))
    (word_cases AliasWord text)

pub read_is_fault : (text : List ℕ) (f : GrokPatternError) → placeholder_at text ≡ Err f → IsFault text f
unfolding placeholder_at
read_is_fault text f e = ⊎_elim (fault_here NameWord text _ f e)
    (λ w. let k = goes_on NameWord text _ f e w in
    ⊎_elim (λ h. subst (λ g. IsFaultFrom NameWord text g) (err_same InvalidPattern f h.1) (Here NameWord text InvalidPattern (NoName w.byte w.more refl w.stands w.ends (nil_from_empty _ h.0))))
    (λ h. let clean = clean_by NameWord text w (λ _. empty_no (word_of NameWord text) h.0) (λ z. cc) (λ z. cc) (λ z. cc) in
    ⊎_elim (λ g. Later NameWord text f w.more clean (byte_after_word NameWord text w 58 (eqb-true w.byte 58 g.0)) (read_alias (word_of NameWord text) w.more f g.1))
    (λ g. let c = close_at_err (word_of NameWord text) [] [] w.byte w.more f g.1 w.ends g.0 in
    subst (λ g. IsFaultFrom NameWord text g) (sym c.1) (Undefined NameWord text w.more clean (byte_after_word NameWord text w 61 c.0) c.2))
    (cond_is (w.byte == 58) _ _ _ h.1))
    (cond_is (is_empty (word_of NameWord text)) _ _ _ k))
    (word_cases NameWord text)
