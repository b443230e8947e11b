use Rattle.std.proofs.Common.{◌≡◌, vec_len, map}
use Rattle.grok.specs.Captures.{capture_texts, AreSlicesOf}
use Rattle.grok_engines.specs.Wholes.{line_at}
use Rattle.std.specs.List.{range_with_len}
use Rattle.grok_engines.proofs.heads.HeadsEngine.captures.Given as goal

abbrev pub invariant-all_groups : goal.invariant-all_groups
invariant-all_groups l =
    (capture_texts l.captures.items ≡ map (line_at l.line) (range_with_len 0 l.group)) × AreSlicesOf l.line (capture_texts l.captures.items)
    × (vec_len l.captures ≡ l.group)
