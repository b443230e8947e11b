-- What is found of the part of a pattern that `regex` refuses.
use Rattle.std.specs.Prelude.{◌≡◌, ℕ, List, []}
use Rattle.std.specs.FinMap as finite
use Rattle.grok.specs.Tree.{Item, Label, Meaning, PlaceholderItem, meaning_text}
use Rattle.grok.specs.FaultLocations.{IsPieceAt}
use Rattle.grok.specs.Refusals.{IsOfSyntax}
use Rattle.grok.specs.Diagnoses.{IsRefusedPart}
use Rattle.regex.specs.declared.error.Error.{Error}
use Rattle.grok.specs.declared.location.PathStep.{PathStep}
use Rattle.grok.specs.declared.diagnose.Refused.{Refused}
use Rattle.grok.specs.declared.settings.Settings.{Settings}

-- the refused part is the pattern itself
pub record IsWhole (pattern : List ℕ) (refused : Refused) : Type 0 where
  pub path : refused.path.items ≡ []
  pub part : refused.part.now ≡ pattern

-- what is refused is this definition, for its syntax
pub record IsToBlame (refuses : List ℕ → Error → Type 0) (settings : Settings) (definition : List ℕ) (refused : Refused)
    : Type 0 where
  pub is : refused.part.now ≡ definition
  pub syntax : IsOfSyntax refused.reason
  pub part : IsRefusedPart refuses settings.grok.now settings.with_alias_only refused

-- the step is a placeholder of the text, and what it stands for was refused for its syntax
pub record IsRefusedIn (refuses : List ℕ → Error → Type 0) (settings : Settings) (text : List ℕ) (step : PathStep)
    (refused : Refused) : Type 0 where
  pub before : List Item
  pub label : Label
  pub meaning : Meaning
  pub stands : IsPieceAt (finite.get settings.grok.now) text before step.range.start step.range.end (PlaceholderItem label meaning)
  pub named : step.name.now ≡ label.name
  pub blame : IsToBlame refuses settings (meaning_text meaning) refused
