pub mod Layouts
pub mod Values
pub mod Plans
pub mod PlanViews
pub mod PlannedFields
pub mod Patterns
pub mod AnsweredTexts
pub mod Objects
pub mod PairTexts
pub mod Records
pub mod SearchedLines
pub mod LogAnswers
pub mod Views
pub mod Searches
pub mod Missed
pub mod AnswerLaws
pub mod ValueCounts
pub mod ValueLists
pub mod KeyCounts
pub mod steps
-- THE WORDS FOR CALLERS: each definition that a contract of a public call uses.
pub use Rattle.groklog_answers.specs.Layouts.{LayoutValue, layout_value, in_file, failure_words}
pub use Rattle.groklog_answers.specs.Plans.{key_names, SharedKeyText, FieldText, IsPlan}
pub use Rattle.groklog_answers.specs.PlanViews.{shared_text, plan_text}
pub use Rattle.groklog_answers.specs.Patterns.{PatternText, MatchText, match_of, first_match, is_found}
pub use Rattle.groklog_answers.specs.Records.{values_of, header_record}
pub use Rattle.groklog_answers.specs.SearchedLines.{found_in, searched_answer, searched_answers_from}
pub use Rattle.groklog_answers.specs.LogAnswers.{log_answer, log_answers_from}
pub use Rattle.groklog_answers.specs.Views.{pattern_text, found_text_of, patterns_of, layout_of, next_number_of, finds_of, starts_of}
pub use Rattle.groklog_answers.specs.Searches.{patterns_in, next_number_in, matched_in, unmatched_in, broken_in, first_index, one_more_at, HasNumbered, HasCounted}
pub use Rattle.groklog_answers.specs.Missed.{has_return, has_escape, missed_with}
pub use Rattle.groklog_answers.specs.ValueCounts.{count_of, value_count, most_of, others_of, one_more, IsUnchanged, SetsCount, SkipsValue, counted_values, counted_pair, AreByCount, AreCommonest, counts_text}
pub use Rattle.groklog_answers.specs.ValueLists.{key_value, pairs_text, values_by, list_text, lists_text}
pub use Rattle.groklog_answers.specs.KeyCounts.{found_value, list_in, counted_in, keys_text, CountsOnce, CountsValue}
