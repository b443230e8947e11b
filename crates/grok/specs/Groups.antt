-- What contracts see of the texts of a match's groups.
use Rattle.std.specs.Prelude.{ℕ, List, Option}
use Rattle.grok.specs.Captures.{capture_texts}
use Rattle.grok.specs.Locations.{located_texts}
use Rattle.grok.specs.declared.matches.groups.Located.{Located}
use Rattle.grok.specs.declared.matches.groups.GroupTexts.{GroupTexts}
use Rattle.grok.specs.declared.matches.groups.GroupTexts.TheVariants as variant

-- the text of each group that took part, from group 0 on
abbrev pub texts_in_line : Located → List (Option (List ℕ))
texts_in_line located = located_texts located.line.now located.locations.now

-- the text of each group that took part, from group 0 on, whether a list of texts is kept or their ranges in the line
abbrev pub group_texts : GroupTexts → List (Option (List ℕ))
group_texts (variant.Listed captures) = capture_texts captures.now
group_texts (variant.Located located) = texts_in_line located
