use Rattle.std.proofs.Common.{◌≡◌, rules, tests, ◌∙◌, sym, ap, ◌&&◌, not, true}
use Rattle.std.specs.List.{list_any}
use Rattle.std.proofs.lemmas.Iterator.{YieldsList-from_slice}
use Rattle.std.proofs.lemmas.Iterator.Search.{any_from_yields_List}
use Rattle.oniguruma_syntax.specs.declared.change.Change.{Change}
use Rattle.oniguruma_syntax.specs.declared.change.ChangeKind.TheVariants.{Lost}
use Rattle.oniguruma_syntax.specs.Changes.{same_kind}
use Rattle.oniguruma_syntax.proofs.change.Changes.has.Goals as goal

pub returns-then-ne : goal.returns-then-ne
returns-then-ne c =
    let changes = c.args.self.now.recorded.items in
    let found : c.any.result ≡ list_any (λ (change : Change). same_kind change.kind c.args.kind) changes =
    any_from_yields_List (λ (change : Change). same_kind change.kind c.args.kind) _ _ c.any.result c.any.ensures.ran (YieldsList-from_slice changes (c.iter.ensures.rest ∙ c.deref.ensures.value)) (λ x b q k. search (rules, tests)) in
    let limited : not (same_kind c.args.kind Lost) ≡ true = search rules in
    found ∙ ap (λ b. b && list_any (λ change. same_kind change.kind c.args.kind) changes) (sym limited)
