use Rattle.std.proofs.Common.{◌≡◌, Some}
use Rattle.groklog_answers.specs.{found_text_of}
use Rattle.groklog_answers.specs.PlanViews.{names_of}
use Rattle.groklog_answers.specs.KeyCounts.{list_in}
use Rattle.groklog_answers.proofs.LinesAreCounted.{some_is_counted}
use Rattle.groklog_answers.proofs.key_counts.KeyCounts.count_list.Goals as goal

pub returns-in-Some : goal.returns-in-Some
returns-in-Some c =
    let listed = rw c.in-Some.is at c.in_ok-text.ensures in
    let keys = c.deref.ensures.value in
    let text = c.as_str.ensures.value in
    let found : list_in c.args.self.now.format (Some (found_text_of c.args.found)) (names_of c.args.self.now.keys.items)
    ≡ Some c.as_str.result.now = cc in
    some_is_counted c.note.result c.args.self.now.counts c.note.new.self c.as_str.result.now _ found c.note.ensures.again c.note.ensures.first c.note.ensures.full
