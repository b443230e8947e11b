use Rattle.std.proofs.Common.{refl, sym, ap, subst}
use Rattle.std.specs.FinMap as finite
use Rattle.grok.specs.Tree.{tree}
use Rattle.grok.specs.Refusals.{IsReasonFor}
use Rattle.grok.specs.FaultLocations.{path_view}
use Rattle.grok.specs.Diagnoses.{LeadsTo, Here, IsBlamed}
use Rattle.grok.proofs.Trees.StepsCompile.{no_structural}
use Rattle.grok.proofs.diagnose.diagnose_refusal.Goals as goal

pub returns : goal.returns
returns g c =
    let reason = subst (λ text. IsReasonFor g.B.BuildFromText.refuses text c.in-Some.reason) c.as_str.ensures.value (rw c.in-Some.is at c.in_ok-reason.ensures) in
    record {
      found = record {
        some = c.requires.some;
        can = c.in_ok-text.ensures.can;
        whole = c.in-Some.reason;
        refusal = subst (λ text. IsReasonFor g.B.BuildFromText.refuses text c.in-Some.reason) c.in_ok-text.ensures.text reason;
        blamed = subst (λ path. IsBlamed (path_view path) c.in-Some.reason c.in-Some.reason) (sym c.new.ensures.items) refl;
        leads = subst (λ path. LeadsTo (finite.get c.args.measurer.now.settings.grok.now) c.args.pattern.now path c.args.pattern.now) (sym (ap path_view c.new.ensures.items)) Here;
        part = record {
          some = c.requires.some;
          can = c.in_ok-text.ensures.can;
          text = c.in_ok-text.ensures.text;
          reason = reason;
          location = c.in_ok-location.ensures;
        };
      };
      whole = record { path = c.new.ensures.items; part = refl };
    }

pub locate_reason-requires-clause-clean : goal.locate_reason-requires-clause-clean
locate_reason-requires-clause-clean g c = no_structural c.args.measurer.now.settings.with_alias_only (tree (finite.get c.args.measurer.now.settings.grok.now) c.args.pattern.now) c.requires.clean
