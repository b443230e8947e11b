-- What a page lists, and what its shares are.
use Rattle.std.specs.Prelude.{ℕ, ◌==◌, Bool, true, false, List, [], ◌∷◌, ◌++◌, if◌then◌else◌, codes, decimal}
use Rattle.groklog_reports.specs.Visible.{visible}
use Rattle.marked_lines.specs.Html.{escaped}
use Rattle.groklog_answers.specs.Searches.{matched_in, unmatched_in, broken_in}
use Rattle.groklog_answers.specs.declared.searches.Searches.{Searches}
use Rattle.groklog_views.specs.declared.page.Share.{Share}
use Rattle.groklog_answers.specs.declared.layout.Lines.{Lines}
use Rattle.groklog_answers.specs.declared.layout.Lines.TheVariants.{All, Matched, Unmatched}

-- Whether lines or events that no pattern matches are listed: not if only those that match are wanted.
abbrev pub lists_unmatched : Lines → Bool
lists_unmatched All = true
lists_unmatched Matched = false
lists_unmatched Unmatched = true

-- How many lines or events a share is about.
abbrev pub share_count : Share → ℕ
share_count share = share.count

-- The shares of a page: how many lines or events each pattern was the first to match, how many none matched, and how many weren't
-- UTF-8, if there are any.
abbrev pub share_counts : Searches → List ℕ
share_counts searches = matched_in searches ++ (unmatched_in searches
    ∷ (if broken_in searches == 0 then [] else broken_in searches ∷ []))

-- These items of a list, and then the beginning of the item of the line or the event with this number.
abbrev pub with_item_begin : List ℕ → ℕ → List ℕ
with_item_begin items number = ((items ++ codes "<li value=\"") ++ escaped (visible (decimal number))) ++ codes "\">"

-- These items, and then that of a line or an event that no pattern matches, if nothing is reported on it.
abbrev pub with_unmatched : List ℕ → ℕ → List ℕ → List ℕ
with_unmatched items number text = (((with_item_begin items number ++ codes "<code class=\"unmatched\">")
    ++ escaped (visible text)) ++ codes "</code>") ++ codes "</li>\n"
