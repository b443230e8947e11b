use Rattle.std.proofs.Common.{◌≡◌, rules, tests, ◌∙◌}
use Rattle.std.specs.List.{list_any}
use Rattle.std.proofs.lemmas.Iterator.{YieldsList-from_slice}
use Rattle.std.proofs.lemmas.Iterator.Search.{any_from_yields_List}
use Rattle.oniguruma_syntax.specs.Forms.{is_own_form}
use Rattle.oniguruma_syntax.specs.declared.token.Node.{Node}
use Rattle.oniguruma_syntax.proofs.forms.has_own_forms.Goals as goal

pub returns : goal.returns
returns c =
    let nodes = c.in_ok-nodes.nodes.items in
    let any : c.any.result ≡ list_any (λ (node : Node). is_own_form node.token) nodes =
    any_from_yields_List (λ (node : Node). is_own_form node.token) _ _ c.any.result c.any.ensures.ran (YieldsList-from_slice nodes (c.iter.ensures.rest ∙ c.deref.ensures.value)) (λ x b q k. search (rules, tests)) in
    (nodes, c.in_ok-nodes.ensures, any)
