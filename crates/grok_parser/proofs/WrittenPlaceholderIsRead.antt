-- If a placeholder is written from its parts, the parser reads these parts.
use Rattle.std.proofs.Common.{◌≡◌, ℕ, ◌<◌, Bool, true, false, List, [], ◌∷◌, ◌++◌, length, Option, Some, None, Result, Ok, refl, sym, ap, ◌∙◌, arith, append_assoc}
use Rattle.std.specs.List.{prefix_len, position_or_len}
use Rattle.std.proofs.Math.Seq.{drop-append_seam, take-append_seam}
use Rattle.std.proofs.lemmas.Bool.Decides.{nat_tests}
use Rattle.grok_parser.specs.declared.malformed.GrokPatternError.{GrokPatternError}
use Rattle.grok_parser.specs.Pieces.{is_name_byte, is_alias_byte, is_terminator, is_brace, is_empty, word_at, definition_at, Parts, Inside, close_at, extract_at, alias_at, placeholder_at}
use Rattle.grok_parser.specs.Grammar.{AllPass, NonePass, after_byte, written, or_empty, MayStand, MayDefine, ReadsParts}

prefix_len_word : (p : ℕ → Bool) (word rest : List ℕ) (t : ℕ) → AllPass p word → p t ≡ false → prefix_len p (word ++ t ∷ rest) ≡ length word
prefix_len_word p [] rest t a n = rw n refl
prefix_len_word p (b ∷ bs) rest t a n = rw a.0 (let h = prefix_len_word p bs rest t a.1 n in omega arith)

position_definition : (p : ℕ → Bool) (word rest : List ℕ) (t : ℕ) → NonePass p word → p t ≡ true → position_or_len p (word ++ t ∷ rest) ≡ length word
position_definition p [] rest t a n = rw n refl
position_definition p (b ∷ bs) rest t a n = rw a.0 (let h = position_definition p bs rest t a.1 n in omega arith)

some_word : (word : List ℕ) → 0 < length word → is_empty word ≡ false
some_word [] n = absurd (omega arith)
some_word (b ∷ bs) n = grind (arith, nat_tests)

pub word_at_reads : (p : ℕ → Bool) (word rest : List ℕ) (t : ℕ) → AllPass p word → p t ≡ false → is_terminator t ≡ true → word_at p (word ++ t ∷ rest) ≡ Ok (record { word = word; terminator = t; rest = rest })
unfolding word_at
word_at_reads p word rest t a n e =
    let len = prefix_len_word p word rest t a n in
    rw len (rw (take-append_seam word (t ∷ rest)) (rw (drop-append_seam word (t ∷ rest)) (rw e refl)))

pub definition_at_reads : (definition rest : List ℕ) → NonePass is_brace definition → 0 < length definition → definition_at (definition ++ 125 ∷ rest) ≡ Ok (definition, rest)
unfolding definition_at
definition_at_reads definition rest a n =
    let len = position_definition is_brace definition rest 125 a refl in
    let some = some_word definition n in
    rw len (rw (take-append_seam definition (125 ∷ rest)) (rw (drop-append_seam definition (125 ∷ rest)) (rw some refl)))

-- the byte after the last word, and the text after that byte
abbrev pub last_byte : Option (List ℕ) → ℕ
last_byte None = 125
last_byte (Some definition) = 61

abbrev pub last_rest : Option (List ℕ) → List ℕ → List ℕ
last_rest None rest = rest
last_rest (Some definition) rest = definition ++ 125 ∷ rest

pub inside_of : (name alias extract : List ℕ) (definition : Option (List ℕ)) (rest : List ℕ) → Inside
inside_of name alias extract definition rest = record { parts = record { name = name; alias = alias; extract = extract; definition = or_empty definition }; rest = rest }

pub close_at_reads : (name alias extract : List ℕ) (d : Option (List ℕ)) (rest : List ℕ) → MayDefine d → close_at name alias extract (last_byte d) (last_rest d rest) ≡ Ok (inside_of name alias extract d rest)
unfolding close_at inside_of
close_at_reads name alias extract None rest m = refl
close_at_reads name alias extract (Some d) rest m = rw (definition_at_reads d rest m.0 m.1) refl

pub extract_at_reads : (name alias extract : List ℕ) (d : Option (List ℕ)) (rest : List ℕ) → AllPass is_alias_byte extract → 0 < length extract → MayDefine d → extract_at name alias (extract ++ last_byte d ∷ last_rest d rest) ≡ Ok (inside_of name alias extract d rest)
unfolding extract_at
extract_at_reads name alias extract None rest a n m = rw (word_at_reads is_alias_byte extract rest 125 a refl refl) (rw (some_word extract n) (close_at_reads name alias extract None rest m))
extract_at_reads name alias extract (Some d) rest a n m = rw (word_at_reads is_alias_byte extract (d ++ 125 ∷ rest) 61 a refl refl) (rw (some_word extract n) (close_at_reads name alias extract (Some d) rest m))

pub alias_at_reads_last : (name alias : List ℕ) (d : Option (List ℕ)) (rest : List ℕ) → AllPass is_alias_byte alias → 0 < length alias → MayDefine d → alias_at name (alias ++ last_byte d ∷ last_rest d rest) ≡ Ok (inside_of name alias [] d rest)
unfolding alias_at
alias_at_reads_last name alias None rest a n m = rw (word_at_reads is_alias_byte alias rest 125 a refl refl) (rw (some_word alias n) (close_at_reads name alias [] None rest m))
alias_at_reads_last name alias (Some d) rest a n m = rw (word_at_reads is_alias_byte alias (d ++ 125 ∷ rest) 61 a refl refl) (rw (some_word alias n) (close_at_reads name alias [] (Some d) rest m))

pub alias_at_reads_more : (name alias extract : List ℕ) (d : Option (List ℕ)) (rest : List ℕ) → AllPass is_alias_byte alias → AllPass is_alias_byte extract → 0 < length extract → MayDefine d → alias_at name (alias ++ 58 ∷ (extract ++ last_byte d ∷ last_rest d rest)) ≡ Ok (inside_of name alias extract d rest)
unfolding alias_at
alias_at_reads_more name alias extract d rest a b n m = rw (word_at_reads is_alias_byte alias (extract ++ last_byte d ∷ last_rest d rest) 58 a refl refl) (extract_at_reads name alias extract d rest b n m)

-- the text after the name
abbrev pub after_name : Option (List ℕ) → Option (List ℕ) → Option (List ℕ) → List ℕ → List ℕ
after_name alias extract d rest = after_byte 58 alias ++ (after_byte 58 extract ++ (last_byte d ∷ last_rest d rest))

placeholder_at_reads_by : (name : List ℕ) (alias extract d : Option (List ℕ)) (rest : List ℕ) → AllPass is_name_byte name → 0 < length name → MayStand alias extract → MayDefine d → placeholder_at (name ++ after_name alias extract d rest) ≡ Ok (inside_of name (or_empty alias) (or_empty extract) d rest)
unfolding placeholder_at
placeholder_at_reads_by name None None None rest a n s m = rw (word_at_reads is_name_byte name rest 125 a refl refl) (rw (some_word name n) (close_at_reads name [] [] None rest m))
placeholder_at_reads_by name None None (Some d) rest a n s m = rw (word_at_reads is_name_byte name (d ++ 125 ∷ rest) 61 a refl refl) (rw (some_word name n) (close_at_reads name [] [] (Some d) rest m))
placeholder_at_reads_by name None (Some x) d rest a n s m = absurd s
placeholder_at_reads_by name (Some alias) None d rest a n s m = rw (word_at_reads is_name_byte name (alias ++ last_byte d ∷ last_rest d rest) 58 a refl refl) (rw (some_word name n) (alias_at_reads_last name alias d rest s.0 s.1 m))
placeholder_at_reads_by name (Some alias) (Some x) d rest a n s m = rw (word_at_reads is_name_byte name (alias ++ 58 ∷ (x ++ last_byte d ∷ last_rest d rest)) 58 a refl refl) (rw (some_word name n) (alias_at_reads_more name alias x d rest s.0 s.1 s.2 m))

-- the two ways to write the same text
pub written_is : (name : List ℕ) (alias extract d : Option (List ℕ)) (rest : List ℕ) → written name alias extract d ++ rest ≡ name ++ after_name alias extract d rest
written_is name alias extract None rest = simp append_assoc
written_is name alias extract (Some d) rest = simp append_assoc

parts_same : (p : Parts) (a x d rest : List ℕ) → p.alias ≡ a → p.extract ≡ x → p.definition ≡ d → ◌≡◌ {A = Result Inside GrokPatternError} (Ok (record { parts = record { name = p.name; alias = a; extract = x; definition = d }; rest = rest })) (Ok (record { parts = p; rest = rest }))
parts_same p a x d rest e f g = rw (sym e) (rw (sym f) (rw (sym g) refl))

pub placeholder_at_reads : (text : List ℕ) (p : Parts) (rest : List ℕ) → ReadsParts text p rest → placeholder_at text ≡ Ok (record { parts = p; rest = rest })
unfolding inside_of
placeholder_at_reads text p rest r =
    let e = placeholder_at_reads_by p.name r.alias r.extract r.definition rest r.named r.nonempty r.words r.defined in
    ap placeholder_at (r.spelled ∙ written_is p.name r.alias r.extract r.definition rest) ∙ (e ∙ parts_same p _ _ _ rest r.alias_is r.extract_is r.definition_is)
