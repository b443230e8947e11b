use Rattle.std.proofs.Common.{sym, subst, get_or, take, ◌∷◌, ◌++◌, []}
use Rattle.std.specs.List.{AllZip}
use Rattle.std.specs.FinMap as finite
use Rattle.std.proofs.lemmas.List.{take_more}
use Rattle.std.proofs.lemmas.Slice.Zip.{all_zipped_more}
use Rattle.grok.specs.ByteLocations.{LocatesByte}
use Rattle.grok.specs.steps.FullMeasures.{IsFullMeasure}
use Rattle.grok.specs.declared.settings.Settings.{Settings}
use Rattle.grok.proofs.defs.Grok.locate_bytes.Goals as goal

pub bytes-init : goal.bytes-init
bytes-init c = record { located = rw c.new-locations.ensures.items tt }

pub locate_measured-requires : goal.locate_measured-requires
locate_measured-requires c =
    subst (λ (settings : Settings). IsFullMeasure settings c.args.pattern.now c.in_ok-measured.measured) (sym c.in_ok-measured.ensures.settings_same) c.in_ok-measured.ensures

pub bytes-preserved : goal.bytes-preserved
bytes-preserved c =
    let i = c.bytes.byte-index in
    let bytes = c.args.bytes.now in
    let byte = get_or bytes i 0 in
    let Locates = LocatesByte (finite.get c.args.self.now) c.args.with_alias_only c.args.pattern.now in
    let located : Locates byte c.in_ok-location.location =
    subst (λ (settings : Settings). LocatesByte (finite.get settings.grok.now) settings.with_alias_only c.args.pattern.now byte c.in_ok-location.location) c.in_ok-measured.ensures.settings_same c.in_ok-location.ensures in
    record {
      located = subst (λ done. AllZip Locates done c.push.new.self.items) (sym (take_more bytes i 0 c.bytes-test.true))
          (subst (AllZip Locates (take i bytes ++ byte ∷ [])) (sym c.in_ok-push.ensures.items)
          (all_zipped_more Locates (take i bytes) c.bytes.locations.items byte c.in_ok-location.location c.bytes.invariant.located located));
    }
