use Rattle.std.proofs.Common.{sym, ap, subst}
use Rattle.std.specs.FinMap as finite
use Rattle.grok.specs.declared.errors.fault.Fault.{Fault}
use Rattle.grok.specs.Tree.{MalformedPiece}
use Rattle.grok.specs.Items.{fault_view}
use Rattle.grok.specs.Diagnoses.{IsFirstStructural}
use Rattle.grok.proofs.Trees.DiagnosisIsFirstFault.{first_structural_at, malformed_at_location}
use Rattle.grok.proofs.diagnose.diagnose_structural.Goals as goal

pub returns-in-Missing : goal.returns-in-Missing
returns-in-Missing g c = record {
  found = subst (λ (fault : Fault). IsFirstStructural c.args.measurer.settings.grok.now c.args.measurer.settings.with_alias_only c.args.pattern.now (fault_view fault) c.in-Some.found.location) c.in-Missing.is
      (first_structural_at c.args.measurer.settings.grok.now c.args.measurer.settings.with_alias_only c.args.pattern.now (fault_view c.in-Some.found.fault) c.in-Some.found.location c.requires.no_clash
      (rw c.in-Some.is at c.in_ok-found.ensures.fault) (rw c.in-Some.is at c.in_ok-found.ensures.location));
  whole = tt;
}

pub returns-in-TooDeep : goal.returns-in-TooDeep
returns-in-TooDeep g c = record {
  found = subst (λ (fault : Fault). IsFirstStructural c.args.measurer.settings.grok.now c.args.measurer.settings.with_alias_only c.args.pattern.now (fault_view fault) c.in-Some.found.location) c.in-TooDeep.is
      (first_structural_at c.args.measurer.settings.grok.now c.args.measurer.settings.with_alias_only c.args.pattern.now (fault_view c.in-Some.found.fault) c.in-Some.found.location c.requires.no_clash
      (rw c.in-Some.is at c.in_ok-found.ensures.fault) (rw c.in-Some.is at c.in_ok-found.ensures.location));
  whole = tt;
}

pub malformation_at-reason-requires : goal.malformation_at-reason-requires
malformation_at-reason-requires g c = (
  c.in-Malformed.field-0,
  malformed_at_location (finite.get c.args.measurer.settings.grok.now) c.args.pattern.now (fault_view c.in-Some.found.fault) c.in-Malformed.field-0 c.in-Some.found.location
      (rw c.in-Some.is at c.in_ok-found.ensures.location) (ap fault_view c.in-Malformed.is),
)

pub returns-in-Malformed : goal.returns-in-Malformed
returns-in-Malformed g c =
    let location = c.in-Some.found.location in
    let at = malformed_at_location (finite.get c.args.measurer.settings.grok.now) c.args.pattern.now (fault_view c.in-Some.found.fault) c.in-Malformed.field-0 location
    (rw c.in-Some.is at c.in_ok-found.ensures.location) (ap fault_view c.in-Malformed.is) in
    record {
      found = record {
        structural = subst (λ error. IsFirstStructural c.args.measurer.settings.grok.now c.args.measurer.settings.with_alias_only c.args.pattern.now (MalformedPiece error) location) (sym (c.malformation_at-reason.ensures.fault c.in-Malformed.field-0 at))
            (subst (λ (fault : Fault). IsFirstStructural c.args.measurer.settings.grok.now c.args.measurer.settings.with_alias_only c.args.pattern.now (fault_view fault) location) c.in-Malformed.is
            (first_structural_at c.args.measurer.settings.grok.now c.args.measurer.settings.with_alias_only c.args.pattern.now (fault_view c.in-Some.found.fault) location c.requires.no_clash
            (rw c.in-Some.is at c.in_ok-found.ensures.fault) (rw c.in-Some.is at c.in_ok-found.ensures.location)));
        malformed = c.malformation_at-reason.ensures.malformed;
      };
      whole = tt;
    }
