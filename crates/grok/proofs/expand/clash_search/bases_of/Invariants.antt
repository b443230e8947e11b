use Rattle.std.proofs.Common.{◌≡◌, ℕ, ◌<◌, [], slice_get, Some, Vec, Global}
use Rattle.grok.specs.declared.expand.rows.Row.{Row}
use Rattle.grok.specs.steps.Rows.{flat}
use Rattle.grok.specs.steps.CountedUses.{HasBasesOf}
use Rattle.grok.proofs.expand.clash_search.bases_of.Given as goal

abbrev pub invariant-parts : goal.invariant-parts
invariant-parts l = record {
  top : HasBasesOf (flat [] l.top) l.bases;
  parts : (index : ℕ) (rows : Vec Row Global) → index < l.rows-index → slice_get l.parts index ≡ Some rows → HasBasesOf (flat [] rows.items) l.bases;
}
