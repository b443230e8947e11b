use Rattle.regex_shared.proofs.searcher.Searcher.new.Goals as goal

pub invariant_of-result : goal.invariant_of-result
invariant_of-result c = record {
  starts = c.starts_lines-at_start.ensures;
  contains = c.in_ok-rarest.ensures.rarest;
  contains_others = c.in_ok-rarest.ensures.others;
  tagged_runs = c.in_ok-tagged.ensures.own;
  forward_runs = c.in_ok-tagged.ensures.ahead;
  reverse_runs = c.in_ok-tagged.ensures.back;
}
