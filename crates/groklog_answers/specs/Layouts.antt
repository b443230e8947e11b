-- Which lines are answered, and how an answer is written.
use Rattle.std.specs.Prelude.{ℕ, List, Bool, true, Option, Some, None, option_map, map, codes}
use Rattle.std.specs.List.{list_any}
use Rattle.std.specs.Str.{bytes_eq}
use Rattle.groklog_answers.specs.declared.layout.Lines.{Lines}
use Rattle.groklog_answers.specs.declared.layout.Addition.{Addition}
use Rattle.groklog_answers.specs.declared.layout.Added.{Added}
use Rattle.groklog_answers.specs.declared.layout.OutputFormat.{OutputFormat}
use Rattle.groklog_answers.specs.declared.layout.Layout.{Layout}
use Rattle.groklog_answers.specs.declared.layout.Failure.{Failure}
use Rattle.groklog_answers.specs.declared.layout.Failure.TheVariants.{NoMatch, NotUtf8}

-- What contracts see of a `Layout`.
pub record LayoutValue : Type 0 where
  pub lines : Lines
  pub format : OutputFormat
  -- what is added before the fields of patterns, each with its key
  pub before : List (Addition × List ℕ)
  -- what is added after them
  pub after : List (Addition × List ℕ)
  pub file_name : List ℕ
  pub typed : Bool
  -- whether fields with an empty value are left out
  pub drops_empty : Bool
  -- the keys of patterns that are written, in their order, or `None` if all are
  pub fields : Option (List (List ℕ))
  -- whether a line that has no fields has the tag of Logstash for such lines
  pub tags_failures : Bool

-- What contracts see of what is added: what it is, and its key.
abbrev pub added_pair : Added → Addition × List ℕ
added_pair added = (added.what, added.key.now)

-- What contracts see of a layout.
abbrev pub layout_value : Layout → LayoutValue
layout_value layout = record {
  lines = layout.lines;
  format = layout.format;
  before = map added_pair layout.before.now;
  after = map added_pair layout.after.now;
  file_name = layout.file_name.now;
  typed = layout.typed;
  drops_empty = layout.drops_empty;
  fields = option_map (λ names. map (λ name. name.now) names.now) layout.fields;
  tags_failures = layout.tags_failures;
}

-- The layout for the lines of the file with this name.
abbrev pub in_file : List ℕ → LayoutValue → LayoutValue
in_file name layout = record {
  lines = layout.lines;
  format = layout.format;
  before = layout.before;
  after = layout.after;
  file_name = name;
  typed = layout.typed;
  drops_empty = layout.drops_empty;
  fields = layout.fields;
  tags_failures = layout.tags_failures;
}

-- Whether a key of a pattern is written.
abbrev pub is_chosen : Option (List (List ℕ)) → List ℕ → Bool
is_chosen None key = true
is_chosen (Some names) key = list_any (λ name. bytes_eq name key) names

-- The words that are written for the reason why a line has no fields.
abbrev pub failure_words : Failure → List ℕ
failure_words NoMatch = codes "no match"
failure_words NotUtf8 = codes "not UTF-8"
