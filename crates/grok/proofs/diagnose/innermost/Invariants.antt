use Rattle.std.proofs.Common.{◌≡◌, length}
use Rattle.std.specs.FinMap as finite
use Rattle.grok.specs.FaultLocations.{path_view}
use Rattle.grok.specs.Diagnoses.{LeadsTo, IsBlamed, IsRefusedPart}
use Rattle.grok.proofs.diagnose.innermost.Given as goal

abbrev pub invariant-levels : goal.invariant-levels
invariant-levels g l = record {
  leads : LeadsTo (finite.get l.settings.grok.now) l.fn.refused.part.now (path_view l.path.items) l.inner.part.now;
  blamed : IsBlamed (path_view l.path.items) l.fn.refused.reason l.inner.reason;
  level : length l.path.items ≡ l._level;
  part : IsRefusedPart g.B.BuildFromText.refuses l.settings.grok.now l.settings.with_alias_only l.inner;
}
