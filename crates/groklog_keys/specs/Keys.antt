-- The keys of patterns, and those under which options add something.
use Rattle.std.specs.Prelude.{ℕ, Bool, List, [], is_some}
use Rattle.std.specs.List.{list_any}
use Rattle.grok.specs.KeyTable.{group_in}
use Rattle.groklog_answers.specs.declared.layout.Added.{Added}
use Rattle.groklog_answers.specs.declared.searches.NamedPattern.{NamedPattern}
use Rattle.groklog_options.specs.declared.task.Task.{Task}
use Rattle.groklog_options.specs.declared.task.Task.TheVariants as task
use Rattle.groklog_options.specs.declared.task.Task.TheVariants.{Answers, Counts, Shown, Page, Why, Suggestions, Explanation}

-- Whether a pattern has this key.
abbrev pub has_key : NamedPattern → List ℕ → Bool
has_key named key = is_some (group_in named.pattern.now.keys key)

-- Whether one of these patterns has this key.
abbrev pub some_has_key : List NamedPattern → List ℕ → Bool
some_has_key patterns key = list_any (λ named. has_key named key) patterns

-- Whether a key under which something is added is a key of one of these patterns.
abbrev pub has_taken_key : List NamedPattern → List Added → Bool
has_taken_key patterns added = list_any (λ one. some_has_key patterns one.key.now) added

-- What a task adds to the fields of answers.
abbrev pub added_by_task : Task → List Added
added_by_task (Answers answers) = answers.added.items
added_by_task (Counts counts) = []
added_by_task (Shown shown) = []
added_by_task (Page page) = []
added_by_task (Why most) = []
added_by_task (Suggestions most) = []
added_by_task Explanation = []
added_by_task (task.List text) = []
