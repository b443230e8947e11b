use Rattle.std.proofs.Common.{◌≡◌, [], length, Option, Some, arith, rules}
use Rattle.std.proofs.lemmas.Grind.{common_steps}
use Rattle.groklog_answers.specs.{MatchText, found_text_of}
use Rattle.groklog_answers.proofs.LinesAreCounted.{value_is_counted, list_is_counted}
use Rattle.groklog_answers.proofs.key_counts.KeyCounts.count.Goals as goal
use Rattle.groklog_answers.proofs.key_counts.KeyCounts.count.Goals.{then-as_slice-lt1, else-as_slice-lt1+else-this-lt2}

pub returns-in-len1 : goal.returns-in-len1
returns-in-len1 c =
    let items = c.args.self.now.keys.items in
    let found : Option MatchText = Some (found_text_of c.args.found) in
    rw (value_is_counted c.args.self.now.format found items (record { ref_ptr = (0, 0); now = [] }) (rw c.as_slice.ensures.value at c.in-len1.len_at_least) (rw c.as_slice.ensures.value at c.in-len1.len_below))
    at (rw c.as_slice.ensures.value at c.count_value.ensures)

pub returns : goal.returns
returns c =
    let items = c.args.self.now.keys.items in
    let found : Option MatchText = Some (found_text_of c.args.found) in
    let several : length items ≡ 1 → ⊥ = λ one. elim c.if-as_slice-lt1.branch [
      | then-as_slice-lt1 w ↦ absurd (first_of (search (rules, arith, one), grind (arith, common_steps, one)))
      | else-as_slice-lt1+else-this-lt2 w ↦ absurd (first_of (search (rules, arith, one), grind (arith, common_steps, one)))
    ] in
    rw (list_is_counted c.args.self.now.format found items several) at c.count_list.ensures
