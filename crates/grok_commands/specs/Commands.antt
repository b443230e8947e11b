-- The words of a command line, and the command that they are.
use Rattle.std.specs.Prelude.{ℕ, Bool, true, false, ◌==◌, List, [], ◌∷◌, ◌++◌, map, Option, Some, None, if◌then◌else◌, codes}
use Rattle.std.specs.Option.{option_map}
use Rattle.std.specs.List.{list_any, list_all, before_first, after_first}
use Rattle.std.specs.Str.{bytes_eq}
use Rattle.std.specs.Borrow.{Bor}
use Rattle.grok_parser.specs.Ascii.{equals_sign}

-- the bytes of borrowed words
abbrev pub texts : List (Bor (List ℕ)) → List (List ℕ)
texts words = map (λ word. word.now) words

-- ---- definition words

-- whether the byte is a `=`
abbrev pub is_equals : ℕ → Bool
is_equals b = b == equals_sign

-- whether the word has a `=`
abbrev pub has_equals : List ℕ → Bool
has_equals word = list_any is_equals word

-- a word `NAME=DEF`, cut at its first `=`
abbrev pub cut_word : List ℕ → List ℕ × List ℕ
cut_word word = (before_first is_equals word, after_first is_equals word)

-- each word, cut at its first `=`
abbrev pub cut_words : List (List ℕ) → List (List ℕ × List ℕ)
cut_words words = map cut_word words

-- each name with its definition, or `None` if a word has no `=`
abbrev pub definitions_of : List (List ℕ) → Option (List (List ℕ × List ℕ))
definitions_of words = if list_all has_equals words then Some (cut_words words) else None

-- ---- commands

-- the text that is printed if the words are no command
abbrev pub usage_text : List ℕ
usage_text = codes "usage: grok_tool split PATTERN | measure [-a] PATTERN [NAME=DEF].."
    ++ codes " | match [-a] PATTERN [NAME=DEF].. | json [-a] PATTERN [NAME=DEF].."
    ++ codes " | check [-a] [NAME=DEF].."

-- a pattern, its definitions, and whether only placeholders with an alias capture
pub record RequestValue : Type 0 where
  pub alias_only : Bool
  pub pattern : List ℕ
  pub definitions : List (List ℕ × List ℕ)

-- a command: what the program is asked to do
pub data CommandValue : Type 0 where
  Split : (pattern : List ℕ) → CommandValue
  Measure : (request : RequestValue) → CommandValue
  Match : (request : RequestValue) → CommandValue
  Json : (request : RequestValue) → CommandValue
  Check : (alias_only : Bool) (definitions : List (List ℕ × List ℕ)) → CommandValue

-- Whether the first word is `-a`, and the words without it. `-a` chooses alias-only mode, in which only
-- placeholders with an alias capture. As the first word it is never the pattern.
abbrev pub mode_of : List (List ℕ) → Bool × List (List ℕ)
mode_of [] = (false, [])
mode_of (word ∷ words) = if bytes_eq word (codes "-a") then (true, words) else (false, word ∷ words)

-- the request in the words `PATTERN [NAME=DEF]..`, whose mode was read before, or `None` if the words don't have
-- this form
abbrev pub request_after : Bool → List (List ℕ) → Option RequestValue
request_after alias_only [] = None
request_after alias_only (pattern ∷ words) =
    option_map (λ definitions. record {
      alias_only = alias_only;
      pattern = pattern;
      definitions = definitions;
    }) (definitions_of words)

-- the request in the words `[-a] PATTERN [NAME=DEF]..`, or `None` if the words don't have this form
abbrev pub request_of : List (List ℕ) → Option RequestValue
request_of words = request_after (mode_of words).0 (mode_of words).1

-- the command `split` if the words after its name are one word `PATTERN`, and otherwise `None`
abbrev pub split_of : List (List ℕ) → Option CommandValue
split_of [] = None
split_of (pattern ∷ []) = Some (Split pattern)
split_of (pattern ∷ word ∷ words) = None

-- the command `check` if the words after its name are `[-a] [NAME=DEF]..`, and otherwise `None`
abbrev pub check_of : List (List ℕ) → Option CommandValue
check_of words = option_map (Check (mode_of words).0) (definitions_of (mode_of words).1)

-- THE COMMAND that the words of a command line are, or `None` if they are no command
abbrev pub command_of : List (List ℕ) → Option CommandValue
command_of [] = None
command_of (name ∷ words) =
    if bytes_eq name (codes "split") then split_of words
    else (if bytes_eq name (codes "measure") then option_map Measure (request_of words)
    else (if bytes_eq name (codes "match") then option_map Match (request_of words)
    else (if bytes_eq name (codes "json") then option_map Json (request_of words)
    else (if bytes_eq name (codes "check") then check_of words
    else None))))
