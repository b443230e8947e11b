use Rattle.std.proofs.Common.{◌≡◌, [], ◌∷◌, get_or, unwrap_or, sym, ◌∙◌, ap₂, subst, arith}
use Rattle.grok.specs.steps.Rows.{part_keys, flat}
use Rattle.grok.specs.steps.CountedUses.{no_uses, AreUsesOf}
use Rattle.grok.proofs.Keys.RowsAreFlat.{flat_part}
use Rattle.grok.proofs.expand.uses.Uses.of_row.Goals as goal

pub returns-in-Part : goal.returns-in-Part
returns-in-Part c done counted =
    let base = c.args.base.now in
    let counts = c.args.counts.now in
    let index = c.in-Part.index in
    let result = c.unwrap_or.result in
    let is : result ≡ get_or counts index no_uses = c.unwrap_or.ensures ∙ ap₂ unwrap_or c.copied.ensures c.none.ensures ∙ c.get.ensures.lookup.4 (omega arith) no_uses in
    subst (λ row. AreUsesOf base (flat done (row ∷ [])) result) (sym c.in-Part.is)
    (subst (λ keys. AreUsesOf base keys result) (sym (flat_part done index)) (subst (AreUsesOf base (part_keys done index)) (sym is) (counted index)))
