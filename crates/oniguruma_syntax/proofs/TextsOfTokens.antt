-- The text of tokens with one more at the end.
use Rattle.std.proofs.Common.{◌≡◌, ℕ, List, [], ◌∷◌, ◌++◌, sym, refl, ap, ◌∙◌}
use Rattle.std.proofs.lemmas.List.{flat_map_more}
use Rattle.oniguruma_syntax.specs.declared.token.Node.{Node}
use Rattle.oniguruma_syntax.specs.Spelling.{spelled_node, spelled_all}

pub one_more : (nodes : List Node) (node : Node) → spelled_all (nodes ++ node ∷ []) ≡ spelled_all nodes ++ spelled_node node
unfolding spelled_all
one_more nodes node = sym (flat_map_more spelled_node [] nodes node)

no_tokens : (text : List ℕ) → spelled_all [] ++ text ≡ text
unfolding spelled_all
no_tokens text = refl

pub none_yet : (nodes : List Node) (text : List ℕ) → nodes ≡ [] → spelled_all nodes ++ text ≡ text
none_yet nodes text e = ap (λ (ns : List Node). spelled_all ns ++ text) e ∙ no_tokens text
