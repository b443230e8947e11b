-- What the search for the first clash of a pattern returns.
use Rattle.std.specs.Prelude.{◌≡◌, ◌-◌, ◌^◌, ◌<◌, Bool, true, List, ◌∷◌, ◌++◌, map, Option, None, MatchOption}
use Rattle.std.specs.Option.{option_map}
use Rattle.grok.specs.Tree.{Label, Meaning, Event, Open, first_structural}
use Rattle.grok.specs.Keys.{is_capturing, capturing, base_key, Structural, first_fault}
use Rattle.grok.specs.steps.FirstClashes.{ClashesAfter}
use Rattle.grok.specs.declared.expand.clash_search.FoundClash.{FoundClash}

-- The events are cut at the second placeholder of this clash, and nothing before it is a fault.
pub record IsClashIn (alias_only : Bool) (es : List Event) (clash : FoundClash) : Type 0 where
  pub before : List Event
  pub label : Label
  pub meaning : Meaning
  pub after : List Event
  pub cut : es ≡ before ++ Open label meaning ∷ after
  pub captures : is_capturing alias_only label ≡ true
  pub none : first_fault alias_only before ≡ None
  pub some : 0 < clash.number
  pub fits : clash.number < 2 ^ 64 - 1
  pub clashes : ClashesAfter (map base_key (capturing alias_only before)) (base_key label) clash.base.now clash.number
      clash.is_alias_first

-- The search returns the clash that is the first fault. If it returns `None`, the first fault is a structural one, or
-- there is none.
abbrev pub FindsFirstClash : Bool → List Event → Option FoundClash → Type 0
FindsFirstClash alias_only es found = MatchOption found
    (first_fault alias_only es ≡ option_map Structural (first_structural es)) (IsClashIn alias_only es)
