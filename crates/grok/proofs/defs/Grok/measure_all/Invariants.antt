use Rattle.std.proofs.Common.{◌≡◌, ℕ, List, Bor, map, take}
use Rattle.grok.specs.Measured.{tree_of, measured_tree, measure_view}
use Rattle.grok.specs.steps.MeasureCache.{HasCorrectCache}
use Rattle.grok.proofs.defs.Grok.measure_all.Given as goal

abbrev pub invariant-patterns : goal.invariant-patterns
invariant-patterns l = record {
  grok : l.measurer.settings.grok.now ≡ l.self;
  alias_only : l.measurer.settings.with_alias_only ≡ l.with_alias_only;
  remembers : HasCorrectCache l.measurer;
  measured : map measure_view l.measures.items ≡ map (λ (pattern : Bor (List ℕ)). measured_tree l.with_alias_only (tree_of l.self pattern.now)) (take l.pattern-index l.patterns);
}
