-- What options add to the fields of an answer, and in which order.
use Rattle.std.specs.Prelude.{ℕ, Bool, true, false, List, [], ◌∷◌, Option, option_map, filter_map, codes}
use Rattle.std.specs.List.{position_or_len}
use Rattle.clap.specs.Matches.{first_value}
use Rattle.clap.specs.declared.parser.matches.Found.{Found}
use Rattle.groklog_answers.specs.declared.layout.Added.{Added}
use Rattle.groklog_answers.specs.declared.layout.Addition.{Addition}
use Rattle.groklog_answers.specs.declared.layout.Addition.TheVariants.{Number, File, Failed, Tag, Line}

-- What can be added, in the order in which an answer has it.
abbrev pub additions : List Addition
additions = Number ∷ File ∷ Failed ∷ Tag ∷ Line ∷ []

-- The name of the option that adds this. Its value is the key.
abbrev pub option_of : Addition → List ℕ
option_of Number = codes "number"
option_of File = codes "file"
option_of Failed = codes "failed"
option_of Tag = codes "tag"
option_of Line = codes "keep"

-- What is added with its key, if its option has a value.
abbrev pub added_by : Found → Addition → Option (Addition × List ℕ)
added_by found what = option_map (λ key. (what, key)) (first_value found (option_of what))

-- WHAT IS ADDED by what was found of the words, each with its key, in the order in which an answer has it.
abbrev pub added_in : Found → List (Addition × List ℕ)
added_in found = filter_map (added_by found) additions

-- Whether this is the line itself.
abbrev pub is_the_line : Addition → Bool
is_the_line Number = false
is_the_line File = false
is_the_line Failed = false
is_the_line Tag = false
is_the_line Line = true

abbrev pub is_line : Added → Bool
is_line added = is_the_line added.what

-- How many of these come before the line, which an answer has after the fields of patterns.
abbrev pub count_before : List Added → ℕ
count_before added = position_or_len is_line added
