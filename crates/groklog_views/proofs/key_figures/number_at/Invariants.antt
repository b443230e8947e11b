use Rattle.std.proofs.Common.{◌≡◌, map, drop}
use Rattle.groklog_views.specs.Figures.{counted_value, value_at}
use Rattle.groklog_views.proofs.key_figures.number_at.Given as goal

abbrev pub invariant-numbers : goal.invariant-numbers
invariant-numbers l = value_at (map counted_value (drop l.number-index l.numbers)) l.left
    ≡ value_at (map counted_value l.fn.numbers) l.fn.rank
