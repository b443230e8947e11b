use Rattle.std.proofs.Common.{◌∙◌, sym, subst}
use Rattle.oniguruma_syntax.specs.Changes.{NameKindsOnce}
use Rattle.oniguruma_syntax.proofs.KindsAreNamedOnce.{one_more_if}
use Rattle.oniguruma_syntax.proofs.change.Changes.add.Goals as goal

pub invariant_of-self : goal.invariant_of-self
invariant_of-self c = record {
  once = subst NameKindsOnce (sym c.push.ensures.items) (one_more_if _ c.args.self.now.recorded.items c.args.change (sym c.has.ensures ∙ c.if-not-has.true) c.args.self.now.once);
}
