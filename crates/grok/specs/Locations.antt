-- The byte ranges of the groups of a match in its line, and their texts.
use Rattle.std.specs.Prelude.{ℕ, ◌≤◌, List, Option, None, All, map, option_map, option_and_then, slice_index_or, slice_range, IsCharBoundary}
use Rattle.std.specs.Option.{ForSome}
use Rattle.grok.specs.KeyTable.{Entries, group_in}

-- the range begins and ends at character boundaries of the line
pub record IsLocationIn (line : List ℕ) (location : ℕ × ℕ) : Type 0 where
  pub ordered : location.0 ≤ location.1
  pub begins : IsCharBoundary line location.0
  pub ends : IsCharBoundary line location.1

-- the range of each group that took part begins and ends at character boundaries of the line
abbrev pub AreLocationsIn : List ℕ → List (Option (ℕ × ℕ)) → Type 0
AreLocationsIn line locations = All (λ location. ForSome location (IsLocationIn line)) locations

-- the text of the line in this range
abbrev pub located_text : List ℕ → ℕ × ℕ → List ℕ
located_text line location = slice_range line location.0 location.1

-- the text of each group, if it took part
abbrev pub located_texts : List ℕ → List (Option (ℕ × ℕ)) → List (Option (List ℕ))
located_texts line locations = map (option_map (located_text line)) locations

-- the start and the end of what a group captured, if it took part
abbrev pub location_at : List (Option (ℕ × ℕ)) → ℕ → Option (ℕ × ℕ)
location_at locations group = slice_index_or locations group None

-- the start and the end of what the group of a key captured
abbrev pub location_of : Entries → List (Option (ℕ × ℕ)) → List ℕ → Option (ℕ × ℕ)
location_of table locations key = option_and_then (location_at locations) (group_in table key)
