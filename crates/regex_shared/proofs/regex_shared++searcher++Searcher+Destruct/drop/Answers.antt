use Rattle.regex_shared.proofs.regex_shared++searcher++Searcher+Destruct.drop.Goals as goal

pub invariant_of-drop : goal.invariant_of-drop
invariant_of-drop c =
    let s = c.args.arg1 in
    record { starts = s.starts; contains = s.contains; contains_others = s.contains_others; tagged_runs = s.tagged_runs; forward_runs = s.forward_runs; reverse_runs = s.reverse_runs }
