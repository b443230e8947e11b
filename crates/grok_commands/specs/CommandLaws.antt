-- The laws of the words of a command line: which words are which command.
use Rattle.std.specs.Prelude.{◌≡◌, ◌≢◌, ◌↔◌, ℕ, Bool, true, false, List, [], ◌∷◌, ◌++◌, map, Option, Some, None, codes}
use Rattle.std.specs.List.{AllByRecursion}
use Rattle.grok_commands.specs.Commands.{has_equals, RequestValue, CommandValue, Split, Measure, Match, Json, Check, command_of}

-- `-a` in alias-only mode, and no word otherwise
abbrev pub mode_words : Bool → List (List ℕ)
mode_words true = codes "-a" ∷ []
mode_words false = []

-- `NAME=DEF` for each definition
abbrev pub definition_words : List (List ℕ × List ℕ) → List (List ℕ)
definition_words definitions =
    map (λ definition. definition.0 ++ codes "=" ++ definition.1) definitions

-- No name has a `=` in it, since a word `NAME=DEF` is cut at its first `=`.
abbrev pub NamesLackEquals : List (List ℕ × List ℕ) → Type 0
NamesLackEquals definitions =
    AllByRecursion (λ definition. has_equals definition.0 ≡ false) definitions

-- `words` are `COMMAND [-a] PATTERN [NAME=DEF]..` for this command and this request. If the pattern is the text
-- `-a`, another `-a` has to come before it.
pub record AreRequest (command : List ℕ) (request : RequestValue) (words : List (List ℕ)) : Type 0 where
  pub are : words ≡ command ∷ (mode_words request.alias_only
      ++ request.pattern ∷ definition_words request.definitions)
  pub names : NamesLackEquals request.definitions
  pub mode : request.alias_only ≡ false → request.pattern ≢ codes "-a"

-- `words` have the form of this command: its name, and then its arguments
abbrev pub AreCommand : CommandValue → List (List ℕ) → Type 0
AreCommand (Split pattern) words = words ≡ codes "split" ∷ (pattern ∷ [])
AreCommand (Measure request) words = AreRequest (codes "measure") request words
AreCommand (Match request) words = AreRequest (codes "match") request words
AreCommand (Json request) words = AreRequest (codes "json") request words
AreCommand (Check alias_only definitions) words =
    (words ≡ codes "check" ∷ (mode_words alias_only ++ definition_words definitions))
    × NamesLackEquals definitions

-- THE LAW: words are read as a command exactly if they are the words of that command.
abbrev pub CommandsAreTheirWords : Type 0
CommandsAreTheirWords = (words : List (List ℕ)) (command : CommandValue)
    → (command_of words ≡ Some command) ↔ AreCommand command words

-- THE LAW: words that are those of no command are read as no command (`None`).
abbrev pub OtherWordsAreNoCommand : Type 0
OtherWordsAreNoCommand = (words : List (List ℕ))
    → ((command : CommandValue) → ¬ AreCommand command words) → command_of words ≡ None
