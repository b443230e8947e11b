-- Which definitions of a part that is refused are to blame.
use Rattle.std.proofs.Common.{◌≢◌, ℕ, All, [], ◌∷◌, ◌++◌, List, refl, subst}
use Rattle.std.proofs.lemmas.List.Elements.{All-append, All-from_recursion}
use Rattle.grok.specs.FaultLocations.{Step}
use Rattle.grok.specs.Items.{item_view}
use Rattle.grok.specs.Refusals.{IsOfSyntax, IsOfBrackets}
use Rattle.grok.specs.Diagnoses.{IsBlamed, IfPlaceholder}
use Rattle.grok.specs.declared.why_refused.RefusalReason.{RefusalReason}
use Rattle.grok.specs.declared.defs.items.Label.{Label}
use Rattle.grok.specs.declared.defs.items.Meaning.{Meaning}
use Rattle.grok.specs.declared.defs.items.Item.{Item}
use Rattle.grok.specs.declared.defs.items.Item.TheVariants as item

-- Brackets of a part that is blamed don't match, and a definition of it is refused for its syntax.
pub blamed_further : (path : List Step) (whole outer inner : RefusalReason) (step : Step) → IsBlamed path whole outer
    → IsOfBrackets outer → IsOfSyntax inner → IsBlamed (path ++ step ∷ []) whole inner
blamed_further [] whole outer inner step same brackets syntax = (subst IsOfBrackets same brackets, syntax)
blamed_further (first ∷ path) whole outer inner step blamed brackets syntax = (blamed.0, syntax)

-- what is no placeholder has no definition
pub no_placeholder : (P : List ℕ → Type 0) (found : Item) → ((label : Label) (meaning : Meaning) → found ≢ item.Placeholder label meaning)
    → IfPlaceholder P (item_view found)
no_placeholder P (item.Text text) other = tt
no_placeholder P (item.Fault fault) other = tt
no_placeholder P (item.Placeholder label meaning) other = absurd (other label meaning refl)

-- one element more that has the property
pub one_more : {X : Type 0} (P : X → Type 0) (xs : List X) (x : X) → All P xs → P x → All P (xs ++ x ∷ [])
one_more P xs x all one = All-append P xs (x ∷ []) all (All-from_recursion P (x ∷ []) (one, tt))
