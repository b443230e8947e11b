-- If the parser reads the parts of a placeholder, the text is that placeholder written from these parts.
use Rattle.std.proofs.Common.{◌≡◌, ℕ, ◌<◌, Bool, true, false, cond, List, [], ◌∷◌, ◌++◌, length, Option, Some, None, Ok, Err, not, ◌==◌, refl, sym, ap, ◌∙◌, subst, arith, ⊎_elim}
use Rattle.std.specs.List.{take_while, before_first}
use Rattle.std.proofs.lemmas.List.Sums.{take_while-cons}
use Rattle.std.proofs.lemmas.Bool.{eqb-true}
use Rattle.std.proofs.lemmas.Bool.Decides.{nat_tests}
use Rattle.grok_parser.specs.declared.malformed.GrokPatternError.TheVariants.{InvalidPattern}
use Rattle.grok_parser.specs.Pieces.{is_name_byte, is_alias_byte, is_terminator, is_brace, is_empty, word_at, Word, definition_at, Inside, close_at, extract_at, alias_at, placeholder_at}
use Rattle.grok_parser.specs.Grammar.{AllPass, NonePass, after_byte, or_empty, MayStand, MayDefine, ReadsParts}
use Rattle.grok_parser.proofs.RestIsSuffix.{bind_ok, chosen_ok, cond_ok, FindsWord, word_at_found, definition_at_found, ok_same}
use Rattle.grok_parser.proofs.WrittenPlaceholderIsRead.{last_byte, last_rest, after_name, written_is}

all_cond : (p : ℕ → Bool) (b : ℕ) (bs : List ℕ) → AllPass p bs → (t : Bool) → p b ≡ t → AllPass p (cond t (b ∷ bs) [])
all_cond p b bs h true e = (e, h)
all_cond p b bs h false e = tt

pub AllPass-take_while : (p : ℕ → Bool) (text : List ℕ) → AllPass p (take_while p text)
AllPass-take_while p [] = tt
AllPass-take_while p (b ∷ bs) = subst (AllPass p) (sym (take_while-cons p b bs)) (all_cond p b (take_while p bs) (AllPass-take_while p bs) (p b) refl)

not_true : (b : Bool) → not b ≡ true → b ≡ false
not_true true e = cc
not_true false e = refl

NonePass-from_AllPass : (p : ℕ → Bool) (text : List ℕ) → AllPass (λ b. not (p b)) text → NonePass p text
NonePass-from_AllPass p [] h = tt
NonePass-from_AllPass p (b ∷ bs) h = (not_true (p b) h.0, NonePass-from_AllPass p bs h.1)

pub NonePass-before_first : (p : ℕ → Bool) (text : List ℕ) → NonePass p (before_first p text)
NonePass-before_first p text = NonePass-from_AllPass p (before_first p text) (AllPass-take_while (λ b. not (p b)) text)

word_passes : (p : ℕ → Bool) (text : List ℕ) (w : Word) → FindsWord p text w → AllPass p w.word
word_passes p text w f = subst (AllPass p) (sym f.longest) (AllPass-take_while p text)

pub nonempty : (word : List ℕ) → is_empty word ≡ false → 0 < length word
nonempty word e = grind (arith, nat_tests)

-- how a placeholder closes
record Closes (name alias extract : List ℕ) (t : ℕ) (rest : List ℕ) (i : Inside) : Type 0 where
  definition : Option (List ℕ)
  defined : MayDefine definition
  spelled : (t ∷ rest) ≡ last_byte definition ∷ last_rest definition i.rest
  parts_is : i.parts ≡ record { name = name; alias = alias; extract = extract; definition = or_empty definition }

close_at_found : (name alias extract : List ℕ) (t : ℕ) (rest : List ℕ) (i : Inside) → close_at name alias extract t rest ≡ Ok i → is_terminator t ≡ true → (t == 58) ≡ false → Closes name alias extract t rest i
unfolding close_at
close_at_found name alias extract t rest i e o n =
    ⊎_elim
    (λ h. let same = ok_same _ i h.1 in
    record { definition = None; defined = tt; spelled = ap (λ b. b ∷ rest) (eqb-true t 125 h.0) ∙ ap (λ v. 125 ∷ v.rest) same; parts_is = sym (ap (λ v. v.parts) same) })
    (λ h.
    let d = bind_ok (definition_at rest) _ i h.1 in
    let f = definition_at_found rest d.0 d.1 in
    let same = ok_same _ i d.2 in
    let byte : t ≡ 61 = grind (arith, nat_tests, o, n, h.0) in
    record {
      definition = Some d.0.0;
      defined = (subst (NonePass is_brace) (sym f.longest) (NonePass-before_first is_brace rest), f.some);
      spelled = ap (λ b. b ∷ rest) byte ∙ ap (λ xs. 61 ∷ xs) (f.spelled ∙ ap (λ v. d.0.0 ++ 125 ∷ v.rest) same);
      parts_is = sym (ap (λ v. v.parts) same);
    })
    (cond_ok (t == 125) _ _ i e)

-- what follows the name
record Tail (name text : List ℕ) (i : Inside) : Type 0 where
  alias : List ℕ
  extract : Option (List ℕ)
  definition : Option (List ℕ)
  words : MayStand (Some alias) extract
  defined : MayDefine definition
  spelled : text ≡ alias ++ (after_byte 58 extract ++ (last_byte definition ∷ last_rest definition i.rest))
  parts_is : i.parts ≡ record { name = name; alias = alias; extract = or_empty extract; definition = or_empty definition }

extract_at_found : (name alias text : List ℕ) (i : Inside) → extract_at name alias text ≡ Ok i → AllPass is_alias_byte alias → Tail name (alias ++ 58 ∷ text) i
unfolding extract_at
extract_at_found name alias text i e a =
    let w = bind_ok (word_at is_alias_byte text) _ i e in
    let f = word_at_found is_alias_byte text w.0 w.1 in
    let h = chosen_ok (is_empty w.0.word) _ _ i w.2 in
    ⊎_elim (λ g. let v = bind_ok (word_at is_alias_byte w.0.rest) (λ _. Err InvalidPattern) i g.1 in cc)
    (λ g. let c = close_at_found name alias w.0.word w.0.terminator w.0.rest i g.1 f.ends g.0 in
    record {
      alias = alias;
      extract = Some w.0.word;
      definition = c.definition;
      words = (a, word_passes is_alias_byte text w.0 f, nonempty w.0.word h.0);
      defined = c.defined;
      spelled = ap (λ xs. alias ++ 58 ∷ xs) (f.spelled ∙ ap (λ xs. w.0.word ++ xs) c.spelled);
      parts_is = c.parts_is;
    })
    (cond_ok (w.0.terminator == 58) _ _ i h.1)

alias_at_found : (name text : List ℕ) (i : Inside) → alias_at name text ≡ Ok i → Tail name text i
unfolding alias_at
alias_at_found name text i e =
    let w = bind_ok (word_at is_alias_byte text) _ i e in
    let f = word_at_found is_alias_byte text w.0 w.1 in
    ⊎_elim (λ g. let t = extract_at_found name w.0.word w.0.rest i g.1 (word_passes is_alias_byte text w.0 f) in
    let whole : w.0.word ++ 58 ∷ w.0.rest ≡ text = ap (λ b. w.0.word ++ b ∷ w.0.rest) (sym (eqb-true w.0.terminator 58 g.0)) ∙ sym f.spelled in
    subst (λ xs. Tail name xs i) whole t)
    (λ g. let h = chosen_ok (is_empty w.0.word) _ _ i g.1 in
    let c = close_at_found name w.0.word [] w.0.terminator w.0.rest i h.1 f.ends g.0 in
    record {
      alias = w.0.word;
      extract = None;
      definition = c.definition;
      words = (word_passes is_alias_byte text w.0 f, nonempty w.0.word h.0);
      defined = c.defined;
      spelled = f.spelled ∙ ap (λ xs. w.0.word ++ xs) c.spelled;
      parts_is = c.parts_is;
    })
    (cond_ok (w.0.terminator == 58) _ _ i w.2)

pub placeholder_at_found : (text : List ℕ) (i : Inside) → placeholder_at text ≡ Ok i → ReadsParts text i.parts i.rest
unfolding placeholder_at
placeholder_at_found text i e =
    let w = bind_ok (word_at is_name_byte text) _ i e in
    let f = word_at_found is_name_byte text w.0 w.1 in
    let h = chosen_ok (is_empty w.0.word) _ _ i w.2 in
    let passes = word_passes is_name_byte text w.0 f in
    let some = nonempty w.0.word h.0 in
    ⊎_elim
    (λ g. let t = alias_at_found w.0.word w.0.rest i g.1 in
    let name : i.parts.name ≡ w.0.word = ap (λ v. v.name) t.parts_is in
    record {
      alias = Some t.alias;
      extract = t.extract;
      definition = t.definition;
      spelled = (f.spelled ∙ (ap (λ b. w.0.word ++ b ∷ w.0.rest) (eqb-true w.0.terminator 58 g.0) ∙ (ap (λ xs. w.0.word ++ 58 ∷ xs) t.spelled ∙ ap (λ n. n ++ after_name (Some t.alias) t.extract t.definition i.rest) (sym name)))) ∙ sym (written_is i.parts.name (Some t.alias) t.extract t.definition i.rest);
      named = subst (AllPass is_name_byte) (sym name) passes;
      nonempty = subst (λ n. 0 < length n) (sym name) some;
      words = t.words;
      defined = t.defined;
      alias_is = ap (λ v. v.alias) t.parts_is;
      extract_is = ap (λ v. v.extract) t.parts_is;
      definition_is = ap (λ v. v.definition) t.parts_is;
    })
    (λ g. let c = close_at_found w.0.word [] [] w.0.terminator w.0.rest i g.1 f.ends g.0 in
    let name : i.parts.name ≡ w.0.word = ap (λ v. v.name) c.parts_is in
    record {
      alias = None;
      extract = None;
      definition = c.definition;
      spelled = (f.spelled ∙ (ap (λ xs. w.0.word ++ xs) c.spelled ∙ ap (λ n. n ++ after_name None None c.definition i.rest) (sym name))) ∙ sym (written_is i.parts.name None None c.definition i.rest);
      named = subst (AllPass is_name_byte) (sym name) passes;
      nonempty = subst (λ n. 0 < length n) (sym name) some;
      words = tt;
      defined = c.defined;
      alias_is = ap (λ v. v.alias) c.parts_is;
      extract_is = ap (λ v. v.extract) c.parts_is;
      definition_is = ap (λ v. v.definition) c.parts_is;
    })
    (cond_ok (w.0.terminator == 58) _ _ i h.1)
