use Rattle.std.proofs.Common.{◌≡◌, ℕ, true, List, All, length}
use Rattle.std.specs.FinMap as finite
use Rattle.grok.specs.Tree.{Item}
use Rattle.grok.specs.Diagnoses.{IsNotToBlame, IfPlaceholder}
use Rattle.grok.specs.steps.CountedUses.{has_base}
use Rattle.grok.specs.steps.PlacedItems.{HasRead, left_in}
use Rattle.grok.proofs.diagnose.first_refused.Given as goal

abbrev pub invariant-items : goal.invariant-items
invariant-items g l = record {
  read : (before : List Item) × HasRead (finite.get l.settings.grok.now) before l.items × All (IfPlaceholder (IsNotToBlame g.B.BuildFromText.is_built_from g.B.BuildFromText.refuses l.settings.grok.now l.settings.with_alias_only)) before;
  text : l.items.text.now ≡ l.text;
  seen : (definition : List ℕ) → has_base l.seen definition ≡ true → IsNotToBlame g.B.BuildFromText.is_built_from g.B.BuildFromText.refuses l.settings.grok.now l.settings.with_alias_only definition;
}

abbrev pub decreases-items : goal.decreases-items
decreases-items g l = length (left_in l.items)
