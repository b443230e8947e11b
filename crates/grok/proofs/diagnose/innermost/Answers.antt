use Rattle.std.proofs.Common.{◌≡◌, [], ◌∷◌, ◌++◌, length, refl, arith, sym, ◌∙◌, ap, subst}
use Rattle.std.proofs.lemmas.List.{map-append, length-append}
use Rattle.std.specs.FinMap as finite
use Rattle.grok.specs.Tree.{meaning_text}
use Rattle.grok.specs.FaultLocations.{step_view, path_view}
use Rattle.grok.specs.Diagnoses.{LeadsTo, Here, Further, IsBlamed}
use Rattle.grok.proofs.Trees.BlamedParts.{blamed_further}
use Rattle.grok.proofs.diagnose.innermost.Goals as goal

pub levels-init : goal.levels-init
levels-init g c = record {
  leads = subst (λ path. LeadsTo (finite.get c.args.settings.grok.now) c.args.refused.part.now path c.args.refused.part.now) (sym (ap path_view c.new-path.ensures.items)) Here;
  blamed = subst (λ path. IsBlamed (path_view path) c.args.refused.reason c.args.refused.reason) (sym c.new-path.ensures.items) refl;
  level = ap length c.new-path.ensures.items;
  part = c.requires;
}

pub levels-preserved : goal.levels-preserved
levels-preserved g c =
    let stored = finite.get c.args.settings.grok.now in
    let start = c.args.refused.part.now in
    let step = c.in-Some.step in
    let (brackets, f) = rw c.in-Some.is at c.in_ok-step.ensures in
    let longer : path_view c.push.new.self.items ≡ path_view c.levels.path.items ++ step_view step ∷ [] = ap path_view c.in_ok-push.ensures.items ∙ map-append step_view c.levels.path.items (step ∷ []) in
    let further = Further (path_view c.levels.path.items) c.levels.inner.part.now f.before step.range.start step.range.end f.label f.meaning c.levels.invariant.leads f.stands in
    record {
      leads = subst (LeadsTo stored start (path_view c.push.new.self.items)) (sym f.blame.is)
          (rw longer (subst (λ name. LeadsTo stored start (path_view c.levels.path.items ++ record { name = name; from = step.range.start; to = step.range.end } ∷ []) (meaning_text f.meaning)) (sym f.named) further));
      blamed = rw longer (blamed_further (path_view c.levels.path.items) c.args.refused.reason c.levels.inner.reason c.in-Some.refused.reason (step_view step) c.levels.invariant.blamed brackets f.blame.syntax);
      level = omega (arith, ap length c.in_ok-push.ensures.items, length-append c.levels.path.items (step ∷ []), c.levels.invariant.level);
      part = f.blame.part;
    }
