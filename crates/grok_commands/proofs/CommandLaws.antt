-- Proves the laws of command lines: words are read as a command exactly if they are the words of that command.
use Rattle.std.proofs.Common.{◌≡◌, ◌≢◌, ◌⊎◌, ℕ, suc, ◌+◌, Bool, true, false, List, [], ◌∷◌, ◌++◌, ◌==◌, ◌&&◌, ◌||◌, if◌then◌else◌, take, drop, Option, Some, None, codes, refl, sym, ap, ap₂, ◌∙◌, subst, inl, inr, append_assoc, arith}
use Rattle.std.specs.Option.{option_map}
use Rattle.std.specs.List.{AllByRecursion, list_all, position_or_len}
use Rattle.std.specs.Str.{bytes_eq}
use Rattle.std.proofs.lemmas.Bool.{eqb-true, cases_Bool, and_parts, and_from}
use Rattle.grok.proofs.Texts.EqualBytesAreSameText.{same_text, text_same}
use Rattle.grok_commands.specs.Commands.{is_equals, has_equals, cut_word, cut_words, definitions_of, RequestValue, CommandValue, Split, Measure, Match, Json, Check, mode_of, request_after, request_of, split_of, check_of, command_of}
use Rattle.grok_commands.specs.CommandLaws.{mode_words, definition_words, NamesLackEquals, AreRequest, AreCommand, CommandsAreTheirWords, OtherWordsAreNoCommand}

-- ---- definition words

take-one : (n x : ℕ) (xs : List ℕ) → take (1 + n) (x ∷ xs) ≡ x ∷ take n xs
take-one n x xs = let e : 1 + n ≡ suc n = omega arith in rw e refl

drop-one : (n x : ℕ) (xs : List ℕ) → drop ((1 + n) + 1) (x ∷ xs) ≡ drop (n + 1) xs
drop-one n x xs = let e : (1 + n) + 1 ≡ suc (n + 1) = omega arith in rw e refl

-- a byte that is no `=` stands before the cut
cut-other : (b : ℕ) (word : List ℕ) → is_equals b ≡ false → cut_word (b ∷ word) ≡ (b ∷ (cut_word word).0, (cut_word word).1)
cut-other b word other =
    let n = position_or_len is_equals word in
    rw other (ap₂ (λ (before after : List ℕ). (before, after)) (take-one n b word) (drop-one n b word))

cut-equals : (b : ℕ) (word : List ℕ) → is_equals b ≡ true → cut_word (b ∷ word) ≡ ([], word)
cut-equals b word equals = rw equals refl

-- the word is a name without a `=`, a `=` and a text
abbrev IsCutOf : List ℕ → List ℕ × List ℕ → Type 0
IsCutOf word cut = (word ≡ cut.0 ++ codes "=" ++ cut.1) × (has_equals cut.0 ≡ false)

word_back : (word : List ℕ) → has_equals word ≡ true → IsCutOf word (cut_word word)
word_back [] h = cc
word_back (b ∷ word) h =
    elim (cases_Bool (is_equals b)) [
      | inl equals ↦
          let is : b ≡ 61 = eqb-true b 61 equals in
          subst (IsCutOf (b ∷ word)) (sym (cut-equals b word equals)) (ap (λ x. x ∷ word) is, refl)
      | inr other ↦
          let there : has_equals word ≡ true = rw other at h in
          let back = word_back word there in
          subst (IsCutOf (b ∷ word)) (sym (cut-other b word other)) (ap (λ w. b ∷ w) back.0, rw other back.1)
    ]

or_parts : (a b : Bool) → (a || b) ≡ false → (a ≡ false) × (b ≡ false)
or_parts true b h = cc
or_parts false b h = (refl, h)

-- a name, a `=` and a text are cut there
word_cut : (name text : List ℕ) → has_equals name ≡ false → cut_word (name ++ codes "=" ++ text) ≡ (name, text)
word_cut [] text h = refl
word_cut (b ∷ name) text h =
    let parts = or_parts (is_equals b) (has_equals name) h in
    cut-other b (name ++ codes "=" ++ text) parts.0 ∙ ap (λ (cut : List ℕ × List ℕ). (b ∷ cut.0, cut.1)) (word_cut name text parts.1)

or_true : (b : Bool) → (b || true) ≡ true
or_true true = refl
or_true false = refl

word_equals : (name text : List ℕ) → has_equals (name ++ codes "=" ++ text) ≡ true
word_equals [] text = refl
word_equals (b ∷ name) text = rw (word_equals name text) (or_true (is_equals b))

words_back : (words : List (List ℕ)) → list_all has_equals words ≡ true → (words ≡ definition_words (cut_words words)) × NamesLackEquals (cut_words words)
words_back [] h = (refl, tt)
words_back (word ∷ words) h =
    let parts = and_parts (has_equals word) (list_all has_equals words) h in
    let first = word_back word parts.0 in
    let more = words_back words parts.1 in
    (ap₂ (λ (w : List ℕ) (ws : List (List ℕ)). w ∷ ws) first.0 more.0, (first.1, more.1))

words_equal : (definitions : List (List ℕ × List ℕ)) → list_all has_equals (definition_words definitions) ≡ true
words_equal [] = refl
words_equal (d ∷ ds) = and_from (has_equals (d.0 ++ codes "=" ++ d.1)) (list_all has_equals (definition_words ds)) (word_equals d.0 d.1) (words_equal ds)

words_cut : (definitions : List (List ℕ × List ℕ)) → NamesLackEquals definitions → cut_words (definition_words definitions) ≡ definitions
words_cut [] h = refl
words_cut (d ∷ ds) h = ap₂ (λ (e : List ℕ × List ℕ) (es : List (List ℕ × List ℕ)). e ∷ es) (word_cut d.0 d.1 h.0) (words_cut ds h.1)

definitions_back : (words : List (List ℕ)) (definitions : List (List ℕ × List ℕ)) → definitions_of words ≡ Some definitions
    → (words ≡ definition_words definitions) × NamesLackEquals definitions
definitions_back words definitions h =
    elim (cases_Bool (list_all has_equals words)) [
      | inl all ↦
          let cut : Some (cut_words words) ≡ Some definitions = rw all at h in
          let is : cut_words words ≡ definitions = cc in
          subst (λ (ds : List (List ℕ × List ℕ)). (words ≡ definition_words ds) × NamesLackEquals ds) is (words_back words all)
      | inr not_all ↦ let none = rw not_all at h in cc
    ]

definitions_read : (definitions : List (List ℕ × List ℕ)) → NamesLackEquals definitions → definitions_of (definition_words definitions) ≡ Some definitions
definitions_read definitions h = rw (words_equal definitions) (ap Some (words_cut definitions h))

-- ---- the mode

mode_back : (words : List (List ℕ)) → words ≡ mode_words (mode_of words).0 ++ (mode_of words).1
mode_back [] = refl
mode_back (word ∷ words) =
    elim (cases_Bool (bytes_eq word (codes "-a"))) [
      | inl same ↦ let is : word ≡ codes "-a" = same_text word (codes "-a") same in rw same (ap (λ w. w ∷ words) is)
      | inr other ↦ rw other refl
    ]

-- without the mode the first word is no `-a`
mode_plain : (words : List (List ℕ)) (word : List ℕ) (more : List (List ℕ)) → (mode_of words).0 ≡ false → (mode_of words).1 ≡ word ∷ more → word ≢ codes "-a"
mode_plain [] word more plain is same = cc
mode_plain (first ∷ words) word more plain is same =
    elim (cases_Bool (bytes_eq first (codes "-a"))) [
      | inl mode ↦ let wrong : true ≡ false = rw mode at plain in cc
      | inr other ↦
          let firsts : first ∷ words ≡ word ∷ more = rw other at is in
          let first_is : first ≡ codes "-a" = cc in
          let mode : bytes_eq first (codes "-a") ≡ true = text_same first (codes "-a") first_is in
          cc
    ]

mode_read : (alias_only : Bool) (word : List ℕ) (words : List (List ℕ)) → (alias_only ≡ false → word ≢ codes "-a")
    → mode_of (mode_words alias_only ++ word ∷ words) ≡ (alias_only, word ∷ words)
mode_read true word words h = refl
mode_read false word words h =
    elim (cases_Bool (bytes_eq word (codes "-a"))) [
      | inl same ↦ absurd (h refl (same_text word (codes "-a") same))
      | inr other ↦ rw other refl
    ]

-- a word with a `=` is no `-a`
no_mode : (word : List ℕ) → has_equals word ≡ true → word ≢ codes "-a"
no_mode word h same = let wrong = rw same at h in cc

-- ---- the commands

request-after : (command : List ℕ) (alias_only : Bool) (pattern : List ℕ) (found : Option (List (List ℕ × List ℕ))) (words : List (List ℕ)) (request : RequestValue)
    → ((definitions : List (List ℕ × List ℕ)) → found ≡ Some definitions → (words ≡ definition_words definitions) × NamesLackEquals definitions)
    → (alias_only ≡ false → pattern ≢ codes "-a")
    → option_map (λ definitions. record { alias_only = alias_only; pattern = pattern; definitions = definitions }) found ≡ Some request
    → AreRequest command request (command ∷ (mode_words alias_only ++ pattern ∷ words))
request-after command alias_only pattern None words request back mode h = cc
request-after command alias_only pattern (Some definitions) words request back mode h =
    let are = back definitions refl in
    let made : RequestValue = record { alias_only = alias_only; pattern = pattern; definitions = definitions } in
    let is : made ≡ request = cc in
    subst (λ (r : RequestValue). AreRequest command r (command ∷ (mode_words alias_only ++ pattern ∷ words))) is
    (record { are = ap (λ ws. command ∷ (mode_words alias_only ++ pattern ∷ ws)) are.0; names = are.1; mode = mode })

request-form : (command : List ℕ) (alias_only : Bool) (words rest : List (List ℕ)) (request : RequestValue)
    → words ≡ mode_words alias_only ++ rest
    → ((word : List ℕ) (more : List (List ℕ)) → alias_only ≡ false → rest ≡ word ∷ more → word ≢ codes "-a")
    → request_after alias_only rest ≡ Some request → AreRequest command request (command ∷ words)
request-form command alias_only words [] request are plain h = cc
request-form command alias_only words (pattern ∷ rest) request are plain h =
    subst (λ ws. AreRequest command request (command ∷ ws)) (sym are)
    (request-after command alias_only pattern (definitions_of rest) rest request (definitions_back rest) (λ m. plain pattern rest m refl) h)

request_back : (command : List ℕ) (words : List (List ℕ)) (request : RequestValue) → request_of words ≡ Some request → AreRequest command request (command ∷ words)
request_back command words request h =
    request-form command (mode_of words).0 words (mode_of words).1 request (mode_back words) (λ word more. mode_plain words word more) h

request_read : (command : List ℕ) (words : List (List ℕ)) (request : RequestValue) → AreRequest command request (command ∷ words) → request_of words ≡ Some request
request_read command words request form =
    let is : words ≡ mode_words request.alias_only ++ request.pattern ∷ definition_words request.definitions = let are = form.are in cc in
    let mode = mode_read request.alias_only request.pattern (definition_words request.definitions) form.mode in
    ap request_of is
    ∙ ap (λ (m : Bool × List (List ℕ)). request_after m.0 m.1) mode
    ∙ ap (option_map (λ definitions. record { alias_only = request.alias_only; pattern = request.pattern; definitions = definitions })) (definitions_read request.definitions form.names)

split_back : (words : List (List ℕ)) (command : CommandValue) → split_of words ≡ Some command → AreCommand command (codes "split" ∷ words)
split_back [] command h = cc
split_back (pattern ∷ []) command h =
    let is : Split pattern ≡ command = cc in
    subst (λ (c : CommandValue). AreCommand c (codes "split" ∷ (pattern ∷ []))) is refl
split_back (pattern ∷ word ∷ words) command h = cc

-- a command of a request, by the name that it is called by
of_request : (make : RequestValue → CommandValue) (name : List ℕ) (found : Option RequestValue) (words : List (List ℕ)) (command : CommandValue)
    → ((request : RequestValue) → found ≡ Some request → AreRequest name request words)
    → ((request : RequestValue) → AreRequest name request words → AreCommand (make request) words)
    → option_map make found ≡ Some command → AreCommand command words
of_request make name None words command back form h = cc
of_request make name (Some request) words command back form h =
    let is : make request ≡ command = cc in
    subst (λ (c : CommandValue). AreCommand c words) is (form request (back request refl))

check-after : (alias_only : Bool) (found : Option (List (List ℕ × List ℕ))) (words : List (List ℕ)) (command : CommandValue)
    → ((definitions : List (List ℕ × List ℕ)) → found ≡ Some definitions → (words ≡ definition_words definitions) × NamesLackEquals definitions)
    → option_map (Check alias_only) found ≡ Some command → AreCommand command (codes "check" ∷ (mode_words alias_only ++ words))
check-after alias_only None words command back h = cc
check-after alias_only (Some definitions) words command back h =
    let are = back definitions refl in
    let is : Check alias_only definitions ≡ command = cc in
    subst (λ (c : CommandValue). AreCommand c (codes "check" ∷ (mode_words alias_only ++ words))) is
    (ap (λ ws. codes "check" ∷ (mode_words alias_only ++ ws)) are.0, are.1)

check_back : (words : List (List ℕ)) (command : CommandValue) → check_of words ≡ Some command → AreCommand command (codes "check" ∷ words)
check_back words command h =
    let rest = (mode_of words).1 in
    subst (λ ws. AreCommand command (codes "check" ∷ ws)) (sym (mode_back words))
    (check-after (mode_of words).0 (definitions_of rest) rest command (definitions_back rest) h)

-- a definition word is no mode
plain_mode : (alias_only : Bool) (definitions : List (List ℕ × List ℕ))
    → mode_of (mode_words alias_only ++ definition_words definitions) ≡ (alias_only, definition_words definitions)
plain_mode true [] = refl
plain_mode false [] = refl
plain_mode alias_only (d ∷ ds) =
    mode_read alias_only (d.0 ++ codes "=" ++ d.1) (definition_words ds) (λ _. no_mode (d.0 ++ codes "=" ++ d.1) (word_equals d.0 d.1))

check_read : (words : List (List ℕ)) (alias_only : Bool) (definitions : List (List ℕ × List ℕ))
    → words ≡ mode_words alias_only ++ definition_words definitions → NamesLackEquals definitions → check_of words ≡ Some (Check alias_only definitions)
check_read words alias_only definitions is names =
    ap check_of is
    ∙ ap (λ (m : Bool × List (List ℕ)). option_map (Check m.0) (definitions_of m.1)) (plain_mode alias_only definitions)
    ∙ ap (option_map (Check alias_only)) (definitions_read definitions names)

-- the first word is one of five, or none of them
by_name : (name : List ℕ) (words : List (List ℕ)) (command : CommandValue) → command_of (name ∷ words) ≡ Some command → AreCommand command (name ∷ words)
by_name name words command h =
    elim (cases_Bool (bytes_eq name (codes "split"))) [
      | inl split ↦
          let said = rw split at h in
          subst (λ w. AreCommand command (w ∷ words)) (sym (same_text name (codes "split") split)) (split_back words command said)
      | inr no_split ↦ elim (cases_Bool (bytes_eq name (codes "measure"))) [
        | inl measure ↦
            let said = rw (no_split, measure) at h in
            subst (λ w. AreCommand command (w ∷ words)) (sym (same_text name (codes "measure") measure))
            (of_request Measure (codes "measure") (request_of words) (codes "measure" ∷ words) command (request_back (codes "measure") words) (λ request form. form) said)
        | inr no_measure ↦ elim (cases_Bool (bytes_eq name (codes "match"))) [
          | inl matched ↦
              let said = rw (no_split, no_measure, matched) at h in
              subst (λ w. AreCommand command (w ∷ words)) (sym (same_text name (codes "match") matched))
              (of_request Match (codes "match") (request_of words) (codes "match" ∷ words) command (request_back (codes "match") words) (λ request form. form) said)
          | inr no_match ↦ elim (cases_Bool (bytes_eq name (codes "json"))) [
            | inl json ↦
                let said = rw (no_split, no_measure, no_match, json) at h in
                subst (λ w. AreCommand command (w ∷ words)) (sym (same_text name (codes "json") json))
                (of_request Json (codes "json") (request_of words) (codes "json" ∷ words) command (request_back (codes "json") words) (λ request form. form) said)
            | inr no_json ↦ elim (cases_Bool (bytes_eq name (codes "check"))) [
              | inl check ↦
                  let said = rw (no_split, no_measure, no_match, no_json, check) at h in
                  subst (λ w. AreCommand command (w ∷ words)) (sym (same_text name (codes "check") check)) (check_back words command said)
              | inr no_check ↦ let none = rw (no_split, no_measure, no_match, no_json, no_check) at h in cc
            ]
          ]
        ]
      ]
    ]

command_back : (words : List (List ℕ)) (command : CommandValue) → command_of words ≡ Some command → AreCommand command words
command_back [] command h = cc
command_back (name ∷ words) command h = by_name name words command h

named : (name : List ℕ) (request : RequestValue) (words : List (List ℕ)) → AreRequest name request words
    → (rest : List (List ℕ)) × (words ≡ name ∷ rest) × AreRequest name request (name ∷ rest)
named name request words form = (_, form.are, record { are = refl; names = form.names; mode = form.mode })

command_read : (words : List (List ℕ)) (command : CommandValue) → AreCommand command words → command_of words ≡ Some command
command_read words (Split pattern) form = ap command_of form
command_read words (Measure request) form =
    let parts = named (codes "measure") request words form in
    ap command_of parts.1 ∙ ap (option_map Measure) (request_read (codes "measure") parts.0 request parts.2)
command_read words (Match request) form =
    let parts = named (codes "match") request words form in
    ap command_of parts.1 ∙ ap (option_map Match) (request_read (codes "match") parts.0 request parts.2)
command_read words (Json request) form =
    let parts = named (codes "json") request words form in
    ap command_of parts.1 ∙ ap (option_map Json) (request_read (codes "json") parts.0 request parts.2)
command_read words (Check alias_only definitions) form =
    ap command_of form.0 ∙ check_read (mode_words alias_only ++ definition_words definitions) alias_only definitions refl form.1

pub commands_are_their_words : CommandsAreTheirWords
commands_are_their_words words command = (command_back words command, command_read words command)

none-left : (found : Option CommandValue) → ((command : CommandValue) → found ≡ Some command → ⊥) → found ≡ None
none-left None h = refl
none-left (Some command) h = absurd (h command refl)

pub other_words_are_no_command : OtherWordsAreNoCommand
other_words_are_no_command words none = none-left (command_of words) (λ command is. none command (command_back words command is))
