-- The runs so far were appended.
use Rattle.std.proofs.Common.{◌≡◌, ◌++◌, take, map, flat_map, string_bytes}
use Rattle.marked_lines.specs.Html.{run_html}
use Rattle.marked_lines.proofs.html.Html.push_runs.Given as goal

abbrev pub invariant-runs : goal.invariant-runs
invariant-runs l = l.self ≡ l.initial.self ++ flat_map (run_html (map string_bytes l.titles)) (take l.run-index l.runs)
