use Rattle.std.proofs.Common.{IfOk, sym, subst}
use Rattle.std.specs.FinMap as finite
use Rattle.grok.specs.ByteLocations.{LocatesByte}
use Rattle.grok.specs.steps.FullMeasures.{IsFullMeasure}
use Rattle.grok.specs.declared.settings.Settings.{Settings}
use Rattle.grok.proofs.defs.Grok.locate_byte.Goals as goal

pub locate_measured-requires : goal.locate_measured-requires
locate_measured-requires c =
    subst (λ (settings : Settings). IsFullMeasure settings c.args.pattern.now c.in_ok-measured.measured) (sym c.in_ok-measured.ensures.settings_same) c.in_ok-measured.ensures

pub returns : goal.returns
returns c =
    subst (λ (settings : Settings). IfOk c.locate_measured.result (LocatesByte (finite.get settings.grok.now) settings.with_alias_only c.args.pattern.now c.args.byte)) c.in_ok-measured.ensures.settings_same c.locate_measured.ensures
