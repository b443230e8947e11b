-- What the parser can't read is malformed for one of the reasons, and from there on is the end of the text.
use Rattle.std.proofs.Common.{◌≡◌, ℕ, suc, ◌+◌, ◌-◌, ◌<◌, ◌≤◌, Bool, true, false, cond, not, List, [], ◌∷◌, ◌++◌, length, get_or, take, drop, Option, Some, None, Result, Ok, Err, refl, sym, ap, ◌∙◌, subst, arith, ◌⊎◌, inl, inr, length-append, take-append-drop}
use lib.Utf8.{encode}
use Rattle.std.specs.Prelude.{IfErr, IsErrAnd}
use Rattle.std.specs.List.{prefix_len, position_or_len, before_first, slice_get}
use Rattle.std.specs.Str.{IsUtf8, IsCharBoundary, chars}
use Rattle.std.proofs.lemmas.List.{nil_from_length}
use Rattle.std.proofs.Math.Seq.{drop-append_seam}
use Rattle.std.proofs.lemmas.Bool.{true≢false}
use Rattle.std.proofs.lemmas.Bool.Decides.{nat_tests}
use Rattle.std.proofs.lemmas.Str.{IsCharBoundary-after_ascii, encode_ascii}
use Rattle.grok_parser.specs.declared.malformed.MalformedReason.{MalformedReason}
use Rattle.grok_parser.specs.declared.malformed.Malformation.{Malformation}
use Rattle.grok_parser.specs.Pieces.{Word, word_at, is_terminator, is_brace, is_empty}
use Rattle.grok_parser.specs.Grammar.{WordKind, NameWord, AliasWord, ExtractWord, FourthWord, next_word, is_legal, word_of, after_word, Ends, Odd, NoName, TooMany, NoExtract, NoAlias, HasNoWordFault, IsOpenAt}
use Rattle.grok_parser.specs.Malformations.{word_reason, IsWordMalformed, IsDefinitionMalformed, IsMalformedFrom, IsMalformedAt}
use Rattle.grok_parser.specs.Malformations as why
use Rattle.grok_parser.specs.declared.malformed.MalformedReason.TheVariants as reason
use Rattle.grok_parser.proofs.WordEndsDecideFaults.{char_nonempty, bad_byte, first_from_get}
use Rattle.grok_parser.proofs.RestIsSuffix.{EndsWith, EndsWith-refl, EndsWith-trans, word_end_found}

heads : (a b : ℕ) (x y : List ℕ) → (a ∷ x) ≡ b ∷ y → a ≡ b
heads a b x y e = cc

tails : (a b : ℕ) (x y : List ℕ) → (a ∷ x) ≡ b ∷ y → x ≡ y
tails a b x y e = cc

-- ---- a word without a reason has no fault

no_name : (kind : WordKind) (word : List ℕ) (b : ℕ) → kind ≡ NameWord → word ≡ [] → word_reason kind (is_empty word) b ≡ None → ⊥
no_name NameWord [] b z k n = cc
no_name NameWord (x ∷ xs) b z k n = cc
no_name AliasWord word b z k n = cc
no_name ExtractWord word b z k n = cc
no_name FourthWord word b z k n = cc

no_extract : (kind : WordKind) (word : List ℕ) (b : ℕ) → kind ≡ ExtractWord → word ≡ [] → word_reason kind (is_empty word) b ≡ None → ⊥
no_extract ExtractWord [] b z k n = cc
no_extract ExtractWord (x ∷ xs) b z k n = cc
no_extract AliasWord word b z k n = cc
no_extract NameWord word b z k n = cc
no_extract FourthWord word b z k n = cc

too_many : (kind : WordKind) (word : List ℕ) (b : ℕ) → kind ≡ FourthWord → word_reason kind (is_empty word) b ≡ None → ⊥
too_many FourthWord word b z n = cc
too_many NameWord word b z n = cc
too_many AliasWord word b z n = cc
too_many ExtractWord word b z n = cc

no_alias : (kind : WordKind) (word : List ℕ) (b : ℕ) → kind ≡ AliasWord → word ≡ [] → (b ≡ 125) ⊎ (b ≡ 61) → word_reason kind (is_empty word) b ≡ None → ⊥
no_alias AliasWord [] b z k (inl is) n = let m : word_reason AliasWord true 125 ≡ None = subst (λ b. word_reason AliasWord true b ≡ None) is n in cc
no_alias AliasWord [] b z k (inr is) n = let m : word_reason AliasWord true 61 ≡ None = subst (λ b. word_reason AliasWord true b ≡ None) is n in cc
no_alias AliasWord (x ∷ xs) b z k t n = cc
no_alias NameWord word b z k t n = cc
no_alias ExtractWord word b z k t n = cc
no_alias FourthWord word b z k t n = cc

pub no_word_fault : (kind : WordKind) (text : List ℕ) (b : ℕ) (more : List ℕ) → after_word kind text ≡ b ∷ more → is_terminator b ≡ true → word_reason kind (is_empty (word_of kind text)) b ≡ None → HasNoWordFault kind text
no_word_fault kind text b more e t n _ (Ends a) = let both : b ∷ more ≡ [] = sym e ∙ a in cc
no_word_fault kind text b more e t n _ (Odd c other rest a f g) = absurd (true≢false (sym t ∙ ap is_terminator (heads b other more rest (sym e ∙ a)) ∙ f))
no_word_fault kind text b more e t n _ (NoName other rest z a s k) = no_name kind (word_of kind text) b z k n
no_word_fault kind text b more e t n _ (TooMany other rest z a s) = too_many kind (word_of kind text) b z n
no_word_fault kind text b more e t n _ (NoExtract other rest z a s k) = no_extract kind (word_of kind text) b z k n
no_word_fault kind text b more e t n _ (NoAlias other rest z a s k) =
    no_alias kind (word_of kind text) b z k (subst (λ x. (x ≡ 125) ⊎ (x ≡ 61)) (heads other b rest more (sym a ∙ e)) s) n

-- ---- a word that can't be read

module _ (kind : WordKind) (text rest : List ℕ) (is : rest ≡ after_word kind text) where
  pub word_stops : length rest ≡ 0 → IsWordMalformed kind text reason.Unclosed rest
  word_stops none = let over : rest ≡ [] = nil_from_length rest none in subst (IsWordMalformed kind text reason.Unclosed) (sym over) (why.Ends (sym is ∙ over))

  pub word_odd : (c : ℕ) (more : List ℕ) → rest ≡ encode c ++ more → Some c ≡ slice_get (chars rest) 0 → is_terminator c ≡ false → IsWordMalformed kind text (reason.InvalidCharacter c) rest
  word_odd c more e g f = odd_by rest is more e g
    where
      odd_by : (bs : List ℕ) → bs ≡ after_word kind text → (more : List ℕ) → bs ≡ encode c ++ more → Some c ≡ slice_get (chars bs) 0 → IsWordMalformed kind text (reason.InvalidCharacter c) bs
      odd_by [] at more e g = let n = char_nonempty c more in absurd (omega (arith, ap length e))
      odd_by (b ∷ bs) at more e g = why.Odd c b bs (sym at) (bad_byte b c bs more e f (is_terminator b) refl) (first_from_get (chars (b ∷ bs)) c g)

-- ---- a word that was read

module _ (kind : WordKind) (text : List ℕ) (w : Word) (read : word_at (is_legal kind) text ≡ Ok w) where
  stands : (w.word ≡ word_of kind text) × (after_word kind text ≡ w.terminator ∷ w.rest) × (is_terminator w.terminator ≡ true)
  unfolding word_at
  stands = word_end_found (word_of kind text) (after_word kind text) w read

  reason_of_word : (found : Option MalformedReason) → word_reason kind (is_empty w.word) w.terminator ≡ found → word_reason kind (is_empty (word_of kind text)) w.terminator ≡ found
  reason_of_word found is = subst (λ word. word_reason kind (is_empty word) w.terminator ≡ found) stands.0 is

  pub malformed_word : (found : MalformedReason) → word_reason kind (is_empty w.word) w.terminator ≡ Some found → IsMalformedFrom kind text found text
  malformed_word found is = why.Here kind text found text (why.Wrong w.terminator w.rest found stands.1 stands.2 (reason_of_word (Some found) is))

  module _ (none : word_reason kind (is_empty w.word) w.terminator ≡ None) where
    clean : HasNoWordFault kind text
    clean = no_word_fault kind text w.terminator w.rest stands.1 stands.2 (reason_of_word None none)

    pub malformed_later : (found : MalformedReason) (rest : List ℕ) → w.terminator ≡ 58 → IsMalformedFrom (next_word kind) w.rest found rest → IsMalformedFrom kind text found rest
    malformed_later found rest colon later = why.Later kind text found rest w.rest clean (stands.1 ∙ ap (λ b. b ∷ w.rest) colon) later

    pub malformed_definition : (found : MalformedReason) (rest : List ℕ) → (w.terminator ≡ 58 → ⊥) → (w.terminator ≡ 125 → ⊥) → IsDefinitionMalformed w.rest found rest → IsMalformedFrom kind text found rest
    malformed_definition found rest no_colon unclosed is =
        let ends = stands.2 in
        let equals : w.terminator ≡ 61 = grind (arith, nat_tests, ends, no_colon, unclosed) in
        why.InDefinition kind text found rest w.rest clean (stands.1 ∙ ap (λ b. b ∷ w.rest) equals) is

-- an empty alias needs an extract after it
pub alias_before_extract : (is_empty : Bool) → word_reason AliasWord is_empty 58 ≡ None
alias_before_extract true = refl
alias_before_extract false = refl

pub alias_is_missing : (b : ℕ) → (b ≡ 58 → ⊥) → word_reason AliasWord true b ≡ Some reason.NoAlias
alias_is_missing b no_colon = grind (arith, nat_tests, no_colon)

-- ---- errors that are passed on

pub same_error : {A : Type 0} (P : MalformedReason → List ℕ → Type 0) (r : Result A Malformation) (error : Malformation) → IsErrAnd r (λ same. same ≡ error) → P error.reason error.rest.now → IfErr r (λ found. P found.reason found.rest.now)
same_error P (Ok x) error is p = tt
same_error P (Err found) error is p = subst (λ (m : Malformation). P m.reason m.rest.now) (sym is) p

pub error_of_rest : {A : Type 0} (P Q : MalformedReason → List ℕ → Type 0) (r : Result A Malformation) → ((why : MalformedReason) (rest : List ℕ) → P why rest → Q why rest) → IfErr r (λ found. P found.reason found.rest.now) → IfErr r (λ found. Q found.reason found.rest.now)
error_of_rest P Q (Ok x) h p = tt
error_of_rest P Q (Err found) h p = h found.reason found.rest.now p

-- ---- what follows a definition

-- what follows the bytes other than braces begins with a brace
brace_ends : (text : List ℕ) (b : ℕ) (more : List ℕ) → drop (position_or_len is_brace text) text ≡ b ∷ more → is_brace b ≡ true
brace_ends [] b more e = cc
brace_ends (x ∷ xs) b more e = by_test (is_brace x) refl (brace_ends xs b more) e
  where
    by_test : (t : Bool) → is_brace x ≡ t → (drop (position_or_len is_brace xs) xs ≡ b ∷ more → is_brace b ≡ true) → drop (cond (not t) (1 + position_or_len is_brace xs) 0) (x ∷ xs) ≡ b ∷ more → is_brace b ≡ true
    by_test true is later e = sym (ap is_brace (heads x b xs more e)) ∙ is
    by_test false is later e = let n = position_or_len is_brace xs in let one : 1 + n ≡ suc n = omega arith in later (subst (λ k. drop k (x ∷ xs) ≡ b ∷ more) one e)

module _ (text rest : List ℕ) (is : rest ≡ drop (position_or_len is_brace text) text) where
  pub definition_stops : length rest ≡ 0 → IsDefinitionMalformed text reason.UnclosedDefinition rest
  definition_stops none = let over : rest ≡ [] = nil_from_length rest none in subst (IsDefinitionMalformed text reason.UnclosedDefinition) (sym over) (why.Stops (sym is ∙ over))

  pub definition_brace : (length rest ≡ 0 → ⊥) → ((more : List ℕ) → rest ≡ encode 125 ++ more → ⊥) → IsDefinitionMalformed text reason.BraceInDefinition rest
  definition_brace some other_than = brace_by rest is some other_than
    where
      brace_by : (bs : List ℕ) → bs ≡ drop (position_or_len is_brace text) text → (length bs ≡ 0 → ⊥) → ((more : List ℕ) → bs ≡ encode 125 ++ more → ⊥) → IsDefinitionMalformed text reason.BraceInDefinition bs
      brace_by [] at some other_than = absurd (some refl)
      brace_by (b ∷ more) at some other_than =
          let brace = brace_ends text b more (sym at) in
          let other : b ≡ 125 → ⊥ = λ e. other_than more (ap (λ x. x ∷ more) e ∙ ap (λ xs. xs ++ more) (sym (encode_ascii 125 (omega arith)))) in
          let opens : b ≡ 123 = grind (arith, nat_tests, brace, other) in
          subst (λ x. IsDefinitionMalformed text reason.BraceInDefinition (x ∷ more)) (sym opens) (why.Brace more (sym at ∙ ap (λ x. x ∷ more) opens))

  pub definition_nothing : (more : List ℕ) → rest ≡ 125 ∷ more → length (before_first is_brace text) ≡ 0 → IsDefinitionMalformed text reason.NoDefinition rest
  definition_nothing more closes none = subst (IsDefinitionMalformed text reason.NoDefinition) (sym closes) (why.Nothing more (sym is ∙ closes) (nil_from_length (before_first is_brace text) none))

-- ---- the rest is the end of the text

ends_word : (kind : WordKind) (text : List ℕ) → EndsWith text (after_word kind text)
ends_word kind text = let n = prefix_len (is_legal kind) text in record { front = take n text; whole = sym (take-append-drop n text) }

ends_definition : (text : List ℕ) → EndsWith text (drop (position_or_len is_brace text) text)
ends_definition text = let n = position_or_len is_brace text in record { front = take n text; whole = sym (take-append-drop n text) }

ends_after : (kind : WordKind) (text : List ℕ) (b : ℕ) (more : List ℕ) → after_word kind text ≡ b ∷ more → EndsWith text more
ends_after kind text b more e = EndsWith-trans text (b ∷ more) more (subst (EndsWith text) e (ends_word kind text)) (record { front = b ∷ []; whole = refl })

word_ends : (kind : WordKind) (text : List ℕ) (reason : MalformedReason) (rest : List ℕ) → IsWordMalformed kind text reason rest → EndsWith text rest
word_ends kind text _ _ (why.Ends e) = subst (EndsWith text) e (ends_word kind text)
word_ends kind text _ _ (why.Odd c b more e t g) = subst (EndsWith text) e (ends_word kind text)
word_ends kind text _ _ (why.Wrong b more reason e t n) = EndsWith-refl text

definition_ends : (text : List ℕ) (reason : MalformedReason) (rest : List ℕ) → IsDefinitionMalformed text reason rest → EndsWith text rest
definition_ends text _ _ (why.Stops e) = subst (EndsWith text) e (ends_definition text)
definition_ends text _ _ (why.Brace more e) = subst (EndsWith text) e (ends_definition text)
definition_ends text _ _ (why.Nothing more e n) = subst (EndsWith text) e (ends_definition text)

malformed_ends : (kind : WordKind) (text : List ℕ) (reason : MalformedReason) (rest : List ℕ) → IsMalformedFrom kind text reason rest → EndsWith text rest
malformed_ends kind text reason rest (why.Here _ _ _ _ w) = word_ends kind text reason rest w
malformed_ends kind text reason rest (why.Later _ _ _ _ more _ e w) = EndsWith-trans text more rest (ends_after kind text 58 more e) (malformed_ends (next_word kind) more reason rest w)
malformed_ends kind text reason rest (why.InDefinition _ _ _ _ more _ e w) = EndsWith-trans text more rest (ends_after kind text 61 more e) (definition_ends more reason rest w)

-- ---- the byte

rest_is : (text rest : List ℕ) → EndsWith text rest → (length rest ≤ length text) × (drop (length text - length rest) text ≡ rest)
rest_is text rest ends =
    let long : length text ≡ length ends.front + length rest = ap length ends.whole ∙ length-append ends.front rest in
    let count : length text - length rest ≡ length ends.front = omega (arith, long) in
    (omega (arith, long), ap (λ n. drop n text) count ∙ ap (drop (length ends.front)) ends.whole ∙ drop-append_seam ends.front rest)

pub malformed_at : (text : List ℕ) (from : ℕ) (reason : MalformedReason) (inside rest : List ℕ) → inside ≡ drop (from + 2) text → IsMalformedFrom NameWord inside reason rest
    → IsMalformedAt text from reason (length text - length rest)
malformed_at text from reason inside rest is w =
    let within : EndsWith text inside = record { front = take (from + 2) text; whole = sym (ap (λ t. take (from + 2) text ++ t) is ∙ take-append-drop (from + 2) text) } in
    let both = rest_is text rest (EndsWith-trans text inside rest within (malformed_ends NameWord inside reason rest w)) in
    record {
      within = omega arith;
      is = subst (λ t. IsMalformedFrom NameWord t reason (drop (length text - length rest) text)) is (subst (IsMalformedFrom NameWord inside reason) (sym both.1) w);
    }

pub malformed_ends_within : (text : List ℕ) (from : ℕ) (reason : MalformedReason) (inside rest : List ℕ) → inside ≡ drop (from + 2) text → IsMalformedFrom NameWord inside reason rest → length rest ≤ length text
malformed_ends_within text from reason inside rest is w =
    let within : EndsWith text inside = record { front = take (from + 2) text; whole = sym (ap (λ t. take (from + 2) text ++ t) is ∙ take-append-drop (from + 2) text) } in
    (rest_is text rest (EndsWith-trans text inside rest within (malformed_ends NameWord inside reason rest w))).0

pub inside_begins : (text : List ℕ) (from : ℕ) → IsUtf8 text → IsOpenAt text from → IsCharBoundary text (from + 2)
inside_begins text from u opens =
    let two : from + 1 + 1 ≡ from + 2 = omega arith in
    let low : get_or text (from + 1) 0 < 128 = omega (arith, opens.1.1) in
    subst (IsCharBoundary text) two (IsCharBoundary-after_ascii text (from + 1) u opens.1.0 low)
