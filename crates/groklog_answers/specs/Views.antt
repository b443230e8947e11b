-- What contracts see of patterns, of their matches, of a `LogAnswers`, and of a `StartPattern`.
use Rattle.std.specs.Prelude.{ℕ, Bool, List, Option, Result, option_map, map}
use Rattle.std.specs.Result.{result_map_both}
use Rattle.grok.specs.Engines.{engine_regex}
use Rattle.grok.specs.RegexFinds.{captures_by}
use Rattle.grok.specs.Answers.{walk, value_of}
use Rattle.grok.specs.BorrowedMatches.{borrowed_keys, borrowed_captures}
use Rattle.grok.specs.declared.engine.regex_engine.RegexEngine.{RegexEngine}
use Rattle.grok.specs.declared.matches.borrowed.MatchesRef.{MatchesRef}
use Rattle.groklog_answers.specs.Layouts.{LayoutValue, layout_value}
use Rattle.groklog_answers.specs.Plans.{FieldText}
use Rattle.groklog_answers.specs.PlanViews.{plan_text}
use Rattle.groklog_answers.specs.Patterns.{PatternText, MatchText, is_found}
use Rattle.groklog_answers.specs.AnsweredTexts.{AnsweredText}
use Rattle.groklog_answers.specs.declared.answered_line.AnsweredLine.{AnsweredLine}
use Rattle.groklog_answers.specs.declared.layout.Failure.{Failure}
use Rattle.groklog_answers.specs.declared.found.Found.{Found}
use Rattle.groklog_answers.specs.declared.answer_writer.AnswerWriter.{AnswerWriter}
use Rattle.groklog_answers.specs.declared.searched_lines.SearchedLines.{SearchedLines}
use Rattle.groklog_answers.specs.declared.searches.LineMatch.{LineMatch}
use Rattle.groklog_answers.specs.declared.searches.NamedPattern.{NamedPattern}
use Rattle.groklog_answers.specs.declared.searches.Search.{Search}
use Rattle.groklog_answers.specs.declared.start_pattern.StartPattern.{StartPattern}

-- What `regex` captures in each line.
abbrev pub finds_of : RegexEngine → List ℕ → Option (List (Option (List ℕ)))
finds_of engine = captures_by (engine_regex engine)

-- The plan of a pattern, if it has one.
abbrev pub named_plan : NamedPattern → Option (List FieldText)
named_plan named = option_map (λ plan. plan_text plan.now) named.plan

-- What contracts see of a pattern: its tag, what its engine finds in a line, its keys, their extracts,
-- and its plan.
abbrev pub pattern_text : NamedPattern → PatternText
pattern_text named = record {
  tag = named.tag.now;
  finds = finds_of named.pattern.now.engine;
  keys = named.pattern.now.keys;
  extracts = named.pattern.now.extracts;
  plan = named_plan named;
}

-- What contracts see of a match of the pattern `named`.
abbrev pub match_text_of : NamedPattern → MatchesRef → MatchText
match_text_of named matches = record {
  tag = named.tag.now;
  extracts = named.pattern.now.extracts;
  plan = named_plan named;
  pairs = walk (borrowed_keys matches) (borrowed_captures matches);
  value = value_of (borrowed_keys matches) (borrowed_captures matches);
}

-- The layout of the answer with this match.
abbrev pub found_layout : Found → LayoutValue
found_layout found = layout_value found.layout.now

-- What contracts see of a match that is written.
abbrev pub found_text : Found → MatchText
found_text found = match_text_of found.named found.matches

-- What contracts see of a match that was found.
abbrev pub found_text_of : LineMatch → MatchText
found_text_of found = match_text_of found.named found.matches

-- What contracts see of the match of a line, or of why it has no fields.
abbrev pub outcome_of : Result LineMatch Failure → Result MatchText Failure
outcome_of = result_map_both found_text_of (λ why. why)

-- What contracts see of a line that is answered.
abbrev pub answered_text : AnsweredLine → AnsweredText
answered_text line = record {
  layout = layout_value line.layout.now;
  found = outcome_of line.found;
  number = line.line.number;
  text = line.line.text.now;
}

-- The same of a pattern that is searched for in lines. The tag is the text that `--tag` writes.
abbrev pub searched : Search → PatternText
searched search = record {
  tag = search.named.tag.now;
  finds = finds_of search.search.pattern.engine;
  keys = search.search.pattern.keys;
  extracts = search.named.pattern.now.extracts;
  plan = named_plan search.named;
}

-- The patterns of a `LogAnswers`, in the order in which they are tried.
abbrev pub patterns_of : SearchedLines AnswerWriter → List PatternText
patterns_of answers = map searched answers.searches.searches.items

-- The layout of the answers.
abbrev pub layout_of : SearchedLines AnswerWriter → LayoutValue
layout_of answers = layout_value answers.task.layout

-- The number of the line that is answered next.
abbrev pub next_number_of : SearchedLines AnswerWriter → ℕ
next_number_of answers = answers.searches.next_number

-- Which lines are starts by a pattern: those in which it is found.
abbrev pub starts_of : StartPattern → List ℕ → Bool
starts_of start = is_found (finds_of start.matcher.engine)
