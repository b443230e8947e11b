-- What was read is a prefix of the text, and what is left to read is the suffix after it.
use Rattle.std.proofs.Common.{◌≡◌, ℕ, ◌<◌, Bool, true, false, cond, List, [], ◌∷◌, ◌++◌, length, Result, Ok, Err, not, ◌&&◌, ◌==◌, drop, refl, sym, ap, ◌∙◌, subst, arith, append_assoc, ◌⊎◌, inl, inr, ⊎_elim}
use Rattle.std.specs.List.{prefix_len, take_while, position_or_len, before_first}
use Rattle.std.proofs.lemmas.List.{take-append-drop}
use Rattle.std.proofs.lemmas.Bool.Decides.{nat_tests}
use Rattle.grok_parser.specs.declared.malformed.GrokPatternError.{GrokPatternError}
use Rattle.grok_parser.specs.declared.malformed.GrokPatternError.TheVariants.{InvalidPattern}
use Rattle.grok_parser.specs.Pieces.{◌>>=◌, is_terminator, is_brace, word_end, word_at, Word, definition_end, definition_at, Inside, Parts, close_at, extract_at, alias_at, placeholder_at, is_empty, is_name_byte, is_alias_byte}

-- the result of two steps
pub bind_ok : {A B : Type 0} (r : Result A GrokPatternError) (f : A → Result B GrokPatternError) (y : B) → (r >>= f) ≡ Ok y → (x : A) × (r ≡ Ok x) × (f x ≡ Ok y)
bind_ok (Ok x) f y e = (x, refl, e)
bind_ok (Err d) f y e = cc

-- a result after a test
pub chosen_ok : {A : Type 0} (b : Bool) (d : GrokPatternError) (r : Result A GrokPatternError) (y : A) → cond b (Err d) r ≡ Ok y → (b ≡ false) × (r ≡ Ok y)
chosen_ok true d r y e = cc
chosen_ok false d r y e = (refl, e)

pub chosen_ok_else : {A : Type 0} (b : Bool) (d : GrokPatternError) (r : Result A GrokPatternError) (y : A) → cond b r (Err d) ≡ Ok y → (b ≡ true) × (r ≡ Ok y)
chosen_ok_else true d r y e = (refl, e)
chosen_ok_else false d r y e = cc

-- the text ends with rest
pub record EndsWith (text rest : List ℕ) : Type 0 where
  pub front : List ℕ
  pub whole : text ≡ front ++ rest

pub EndsWith-refl : (a : List ℕ) → EndsWith a a
EndsWith-refl a = record { front = []; whole = refl }

pub EndsWith-trans : (a b c : List ℕ) → EndsWith a b → EndsWith b c → EndsWith a c
EndsWith-trans a b c x y = record { front = x.front ++ y.front; whole = (x.whole ∙ ap (λ s. x.front ++ s) y.whole) ∙ sym (append_assoc x.front y.front c) }

-- a word that was found
pub record FindsWord (is_legal : ℕ → Bool) (text : List ℕ) (w : Word) : Type 0 where
  pub longest : w.word ≡ take_while is_legal text
  pub spelled : text ≡ w.word ++ w.terminator ∷ w.rest
  pub ends : is_terminator w.terminator ≡ true

pub ok_same : {A : Type 0} (x y : A) → ◌≡◌ {A = Result A GrokPatternError} (Ok x) (Ok y) → x ≡ y
ok_same x y e = cc

pub word_end_found : (word rest : List ℕ) (w : Word) → word_end word rest ≡ Ok w → (w.word ≡ word) × (rest ≡ w.terminator ∷ w.rest) × (is_terminator w.terminator ≡ true)
word_end_found word [] w e = cc
word_end_found word (b ∷ bs) w e =
    let h = chosen_ok_else (is_terminator b) _ (Ok (record { word = word; terminator = b; rest = bs })) w e in
    let P : Word → Type 0 = λ v. (v.word ≡ word) × ((b ∷ bs) ≡ v.terminator ∷ v.rest) × (is_terminator v.terminator ≡ true) in
    subst P (ok_same _ w h.1) (refl, refl, h.0)

pub word_at_found : (is_legal : ℕ → Bool) (text : List ℕ) (w : Word) → word_at is_legal text ≡ Ok w → FindsWord is_legal text w
unfolding word_at
word_at_found is_legal text w e =
    let h = word_end_found (take_while is_legal text) (drop (prefix_len is_legal text) text) w e in
    let whole : take_while is_legal text ++ drop (prefix_len is_legal text) text ≡ text = take-append-drop (prefix_len is_legal text) text in
    record { longest = h.0; spelled = cc; ends = h.2 }

pub word_at_rest : (is_legal : ℕ → Bool) (text : List ℕ) (w : Word) → word_at is_legal text ≡ Ok w → EndsWith text w.rest
word_at_rest is_legal text w e = let h = word_at_found is_legal text w e in record { front = w.word ++ w.terminator ∷ []; whole = h.spelled ∙ sym (append_assoc w.word (w.terminator ∷ []) w.rest) }

-- a definition that was found
pub record FindsDefinition (text definition rest : List ℕ) : Type 0 where
  pub longest : definition ≡ before_first is_brace text
  pub spelled : text ≡ definition ++ 125 ∷ rest
  pub some : 0 < length definition

definition_end_found : (definition rest : List ℕ) (d : List ℕ × List ℕ) → definition_end definition rest ≡ Ok d → (d.0 ≡ definition) × (rest ≡ 125 ∷ d.1) × (0 < length definition)
definition_end_found definition [] d e = cc
definition_end_found definition (b ∷ bs) d e =
    let h = chosen_ok_else (b == 125 && not (length definition == 0)) _ (Ok (definition, bs)) d e in
    let same : (definition, bs) ≡ d = ok_same _ d h.1 in
    let P : List ℕ × List ℕ → Type 0 = λ v. (v.0 ≡ definition) × ((b ∷ bs) ≡ 125 ∷ v.1) × (0 < length definition) in
    let byte : b ≡ 125 = grind (arith, nat_tests, h.0) in
    let some : 0 < length definition = grind (arith, nat_tests, h.0) in
    subst P same (refl, ap (λ x. x ∷ bs) byte, some)

pub definition_at_found : (text : List ℕ) (d : List ℕ × List ℕ) → definition_at text ≡ Ok d → FindsDefinition text d.0 d.1
unfolding definition_at
definition_at_found text d e =
    let h = definition_end_found (before_first is_brace text) (drop (position_or_len is_brace text) text) d e in
    let whole : before_first is_brace text ++ drop (position_or_len is_brace text) text ≡ text = take-append-drop (position_or_len is_brace text) text in
    record { longest = h.0; spelled = cc; some = rw h.0 h.2 }

pub definition_at_rest : (text : List ℕ) (d : List ℕ × List ℕ) → definition_at text ≡ Ok d → EndsWith text d.1
definition_at_rest text d e = let h = definition_at_found text d e in record { front = d.0 ++ 125 ∷ []; whole = h.spelled ∙ sym (append_assoc d.0 (125 ∷ []) d.1) }

-- either branch of a test
pub cond_ok : {A : Type 0} (b : Bool) (q r : Result A GrokPatternError) (y : A) → cond b q r ≡ Ok y → ((b ≡ true) × (q ≡ Ok y)) ⊎ ((b ≡ false) × (r ≡ Ok y))
cond_ok true q r y e = inl (refl, e)
cond_ok false q r y e = inr (refl, e)

inside_rest : (p : Parts) (rest : List ℕ) (i : Inside) → ◌≡◌ {A = Result Inside GrokPatternError} (Ok (record { parts = p; rest = rest })) (Ok i) → EndsWith rest i.rest
inside_rest p rest i e = let P : Inside → Type 0 = λ v. EndsWith rest v.rest in subst P (ok_same _ i e) (EndsWith-refl rest)

pub close_at_rest : (name alias extract : List ℕ) (t : ℕ) (rest : List ℕ) (i : Inside) → close_at name alias extract t rest ≡ Ok i → EndsWith rest i.rest
unfolding close_at
close_at_rest name alias extract t rest i e =
    ⊎_elim (λ h. inside_rest _ rest i h.1)
    (λ h. let d = bind_ok (definition_at rest) _ i h.1 in EndsWith-trans rest d.0.1 i.rest (definition_at_rest rest d.0 d.1) (inside_rest _ d.0.1 i d.2))
    (cond_ok (t == 125) _ _ i e)

pub extract_at_rest : (name alias text : List ℕ) (i : Inside) → extract_at name alias text ≡ Ok i → EndsWith text i.rest
unfolding extract_at
extract_at_rest name alias text i e =
    let w = bind_ok (word_at is_alias_byte text) _ i e in
    let h = chosen_ok (is_empty w.0.word) _ _ i w.2 in
    EndsWith-trans text w.0.rest i.rest (word_at_rest is_alias_byte text w.0 w.1)
    (⊎_elim (λ g. let v = bind_ok (word_at is_alias_byte w.0.rest) (λ _. Err InvalidPattern) i g.1 in cc) (λ g. close_at_rest name alias w.0.word w.0.terminator w.0.rest i g.1) (cond_ok (w.0.terminator == 58) _ _ i h.1))

pub alias_at_rest : (name text : List ℕ) (i : Inside) → alias_at name text ≡ Ok i → EndsWith text i.rest
unfolding alias_at
alias_at_rest name text i e =
    let w = bind_ok (word_at is_alias_byte text) _ i e in
    EndsWith-trans text w.0.rest i.rest (word_at_rest is_alias_byte text w.0 w.1)
    (⊎_elim (λ g. extract_at_rest name w.0.word w.0.rest i g.1) (λ g. close_at_rest name w.0.word [] w.0.terminator w.0.rest i (chosen_ok (is_empty w.0.word) _ _ i g.1).1) (cond_ok (w.0.terminator == 58) _ _ i w.2))

pub placeholder_at_rest : (text : List ℕ) (i : Inside) → placeholder_at text ≡ Ok i → EndsWith text i.rest
unfolding placeholder_at
placeholder_at_rest text i e =
    let w = bind_ok (word_at is_name_byte text) _ i e in
    let h = chosen_ok (is_empty w.0.word) _ _ i w.2 in
    EndsWith-trans text w.0.rest i.rest (word_at_rest is_name_byte text w.0 w.1)
    (⊎_elim (λ g. alias_at_rest w.0.word w.0.rest i g.1) (λ g. close_at_rest w.0.word [] [] w.0.terminator w.0.rest i g.1) (cond_ok (w.0.terminator == 58) _ _ i h.1))
