use Rattle.std.proofs.Common.{◌≡◌, ◌++◌, drop, filter}
use Rattle.regex_beginnings.specs.Beginnings.{is_around}
use Rattle.regex_beginnings.proofs.beginnings.groups_around.Given as goal

abbrev pub invariant-groups : goal.invariant-groups
invariant-groups l = l.around.items ++ filter (is_around l.piece) (drop l.group-index l.groups) ≡ filter (is_around l.piece) l.groups
