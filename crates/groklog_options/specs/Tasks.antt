-- What belongs to the task of a run.
use Rattle.std.specs.Prelude.{◌≡◌, ◌<◌, ◌^◌, ℕ, Bool, true, false, List, [], ◌∷◌, Option, Some, None, ⊤, codes, find, map, not, vec_len, ◌==◌, option_and_then, option_map, unwrap_or}
use Rattle.std.specs.Str.Parse.{IsNumeral, digits_value, without_leading_plus}
use denote.Ref.{Bor}
use Rattle.clap.specs.Matches.{first_value, matched_of, one_text}
use Rattle.clap.specs.declared.parser.matches.Found.{Found}
use Rattle.clap.specs.declared.parser.matches.ValueSource.{ValueSource}
use Rattle.clap.specs.declared.parser.matches.ValueSource.TheVariants.{DefaultValue, CommandLine}
use Rattle.groklog_answers.specs.Layouts.{added_pair}
use Rattle.groklog_options.specs.Additions.{added_in}
use Rattle.groklog_answers.specs.declared.layout.OutputFormat.{OutputFormat}
use Rattle.groklog_answers.specs.declared.layout.OutputFormat.TheVariants.{Json, Pairs, Csv}
use Rattle.groklog_options.specs.declared.task.PlanOptions.{PlanOptions}
use Rattle.groklog_options.specs.declared.task.Task.{Task}
use Rattle.groklog_options.specs.declared.task.Task.TheVariants as task
use Rattle.groklog_options.specs.declared.task.Task.TheVariants.{Answers, Counts, Shown, Page, Why, Suggestions, Explanation}

-- Whether it uses patterns: suggestions and a list of definitions don't.
abbrev pub has_patterns : Task → Bool
has_patterns (Answers answers) = true
has_patterns (Counts counts) = true
has_patterns (Shown shown) = true
has_patterns (Page page) = true
has_patterns (Why most) = true
has_patterns (Suggestions most) = false
has_patterns Explanation = true
has_patterns (task.List text) = false

-- Whether these are records.
abbrev pub is_csv : OutputFormat → Bool
is_csv Json = false
is_csv Pairs = false
is_csv Csv = true

-- Whether it answers with records.
abbrev pub has_records : Task → Bool
has_records (Answers answers) = is_csv answers.format
has_records (Counts counts) = false
has_records (Shown shown) = false
has_records (Page page) = false
has_records (Why most) = false
has_records (Suggestions most) = false
has_records Explanation = false
has_records (task.List text) = false

-- Whether something is added to the fields of answers.
abbrev pub has_additions : Task → Bool
has_additions (Answers answers) = not (vec_len answers.added == 0)
has_additions (Counts counts) = false
has_additions (Shown shown) = false
has_additions (Page page) = false
has_additions (Why most) = false
has_additions (Suggestions most) = false
has_additions Explanation = false
has_additions (task.List text) = false

-- Where values are written. Only answers say that.
abbrev pub plan_of : Task → PlanOptions
plan_of (Answers answers) = answers.plan
plan_of (Counts counts) = record { is_nested = false; is_merged = false }
plan_of (Shown shown) = record { is_nested = false; is_merged = false }
plan_of (Page page) = record { is_nested = false; is_merged = false }
plan_of (Why most) = record { is_nested = false; is_merged = false }
plan_of (Suggestions most) = record { is_nested = false; is_merged = false }
plan_of Explanation = record { is_nested = false; is_merged = false }
plan_of (task.List text) = record { is_nested = false; is_merged = false }

-- The keys of patterns that `--fields` names, or `None` if all count.
abbrev pub fields_of : Task → Option (List (Bor (List ℕ)))
fields_of (Answers answers) = option_map (λ keys. keys.items) answers.fields
fields_of (Counts counts) = None
fields_of (Shown shown) = option_map (λ keys. keys.items) shown.fields
fields_of (Page page) = option_map (λ keys. keys.items) page.fields
fields_of (Why most) = None
fields_of (Suggestions most) = None
fields_of Explanation = None
fields_of (task.List text) = None

-- ---- which words give which task

-- Whether a value comes from the words, and not from a default.
abbrev pub is_from_words : Option ValueSource → Bool
is_from_words None = false
is_from_words (Some DefaultValue) = false
is_from_words (Some CommandLine) = true

-- Whether an option stands among the words.
abbrev pub is_given : Found → List ℕ → Bool
is_given found option = is_from_words (option_and_then (λ matched. matched.source) (matched_of found option))

-- The options that ask for a task.
abbrev pub task_options : List (List ℕ)
task_options = codes "list" ∷ codes "explain" ∷ codes "suggest" ∷ codes "why" ∷ codes "count" ∷ codes "html" ∷ codes "show" ∷ []

-- The option that asks for this task. No option asks for answers.
abbrev pub option_of : Task → Option (List ℕ)
option_of (Answers answers) = None
option_of (Counts counts) = Some (codes "count")
option_of (Shown shown) = Some (codes "show")
option_of (Page page) = Some (codes "html")
option_of (Why most) = Some (codes "why")
option_of (Suggestions most) = Some (codes "suggest")
option_of Explanation = Some (codes "explain")
option_of (task.List text) = Some (codes "list")

-- THE TASK, by what was found of the words: that of the first of the options for tasks that stands among them, or else answers.
abbrev pub IsAskedBy : Found → Task → Type 0
IsAskedBy found task = option_of task ≡ find (is_given found) task_options

-- The first value of an option, or the empty text if it has none.
abbrev pub value_in : Found → List ℕ → List ℕ
value_in found option = unwrap_or (first_value found option) []

-- Whether this is the number that an option has: that of its decimal digits, which is below 2^64.
abbrev pub IsNumberOf : Found → List ℕ → ℕ → Type 0
IsNumberOf found option number = (text : List ℕ) → one_text found option ≡ Some text
    → IsNumeral 10 (without_leading_plus text) → digits_value 10 (without_leading_plus text) < 2 ^ 64
    → number ≡ digits_value 10 (without_leading_plus text)

-- What the task takes from the words: what is added to answers, the file of a page, for how many lines reasons are given or patterns
-- suggested, and the text of a list.
abbrev pub HasItsValue : Found → Task → Type 0
HasItsValue found (Answers answers) = map added_pair answers.added.items ≡ added_in found
HasItsValue found (Counts counts) = ⊤
HasItsValue found (Shown shown) = ⊤
HasItsValue found (Page page) = page.file.now ≡ value_in found (codes "html")
HasItsValue found (Why most) = IsNumberOf found (codes "why") most
HasItsValue found (Suggestions most) = IsNumberOf found (codes "suggest") most
HasItsValue found Explanation = ⊤
HasItsValue found (task.List text) = text.now ≡ value_in found (codes "list")
