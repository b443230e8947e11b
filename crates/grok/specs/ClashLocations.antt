-- Where the two placeholders of a clash stand.
use Rattle.std.specs.Prelude.{◌≡◌, ℕ, Bool, true, if◌then◌else◌, List, ◌∷◌, ◌++◌, Option, Some, None, MatchOption}
use Rattle.std.specs.String.{string_bytes}
use Rattle.grok.specs.Tree.{Definitions, Label, Meaning, PlaceholderItem, Event, Open, deepest, tree}
use Rattle.grok.specs.Keys.{is_capturing, capturing, base_key, numbered, key_after, TreeFault, Clash, first_fault}
use Rattle.grok.specs.FaultLocations.{path_view}
use Rattle.grok.specs.ByteLocations.{IsEventAt}
use Rattle.grok.specs.declared.location.Location.{Location}
use Rattle.grok.specs.declared.locate_clash.Clash as found

-- The open of this placeholder comes from this location. The placeholder captures, and after the events before it
-- its key is this one.
pub record HasKeyAt (stored : Definitions) (alias_only : Bool) (pattern : List ℕ) (key : List ℕ)
    (location : Location) (label : Label) (meaning : Meaning) (before : List Event) : Type 0 where
  pub stands : IsEventAt stored deepest pattern (path_view location.path.items) location.text.now
      location.range.start location.range.end (PlaceholderItem label meaning) before (Open label meaning)
  pub captures : is_capturing alias_only label ≡ true
  pub has_key : key_after (capturing alias_only before) label ≡ key

-- WHERE A CLASH STANDS. The tree of the pattern is cut at the opens of two placeholders, and both have this key. The
-- first one is read before the second, and nothing before the second is a fault.
pub record IsClashAt (stored : Definitions) (alias_only : Bool) (pattern : List ℕ) (clash : found.Clash) : Type 0 where
  pub first_label : Label
  pub first_meaning : Meaning
  pub before : List Event
  pub first_at : HasKeyAt stored alias_only pattern (string_bytes clash.key) clash.first first_label first_meaning before
  pub between : List Event
  pub second_label : Label
  pub second_meaning : Meaning
  pub second_at : HasKeyAt stored alias_only pattern (string_bytes clash.key) clash.second second_label second_meaning
      (before ++ Open first_label first_meaning ∷ between)
  pub after : List Event
  pub cut : tree stored pattern ≡ (before ++ Open first_label first_meaning ∷ between)
      ++ Open second_label second_meaning ∷ after
  pub none : first_fault alias_only (before ++ Open first_label first_meaning ∷ between) ≡ None
  -- one of them has the key as its base key, and the other one gets it by its number
  pub numbered : string_bytes clash.key ≡ numbered (string_bytes clash.base) clash.number
  pub first_asks : base_key first_label ≡ (if clash.is_alias_first then string_bytes clash.key else string_bytes clash.base)
  pub second_asks : base_key second_label ≡ (if clash.is_alias_first then string_bytes clash.base else string_bytes clash.key)

-- the first fault is the clash that was found, or if none was found, it is no clash
abbrev pub IsFirstClash : Option TreeFault → Option found.Clash → Type 0
IsFirstClash first found = MatchOption found ((key : List ℕ) → first ≡ Some (Clash key) → ⊥)
    (λ clash. first ≡ Some (Clash (string_bytes clash.key)))
