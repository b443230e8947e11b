use Rattle.std.proofs.Common.{◌≡◌, ℕ, zero, suc, ◌+◌, ◌-◌, drop, [], ◌∷◌, List, Option, Some, None, MatchOption, refl, sym, ◌∙◌, ap, arith}
use Rattle.grok.specs.Tree as tree
use Rattle.grok.specs.Items.{item_view}
use Rattle.grok.specs.declared.defs.items.Item.{Item}
use Rattle.grok.proofs.defs.items.Items.pass_over.Goals as goal

nothing_left : (n : ℕ) → drop {A = tree.Item} n [] ≡ []
nothing_left zero = refl
nothing_left (suc n) = refl

passes_one : (n : ℕ) (old new : List tree.Item) (found : Option Item) → MatchOption found ((old ≡ []) × (new ≡ [])) (λ item. old ≡ item_view item ∷ new) → drop (suc n) old ≡ drop n new
passes_one n old new None (over, none) = ap (drop (suc n)) over ∙ sym (ap (drop n) none ∙ nothing_left n)
passes_one n old new (Some item) is = ap (drop (suc n)) is

pub items-preserved : goal.items-preserved
items-preserved c =
    let n = c.args.count in
    let i = c.items._index in
    let one : n - i ≡ suc (n - (i + 1)) = omega arith in
    sym (passes_one (n - (i + 1)) c.items.self c.next.new.self c.in_ok-next.field-0 c.in_ok-next.ensures)
    ∙ ap (λ k. drop k c.items.self) (sym one) ∙ c.items.invariant
