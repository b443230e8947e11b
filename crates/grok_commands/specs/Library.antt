-- The definitions that a command works with.
use Rattle.std.specs.Prelude.{ℕ, List}
use Rattle.std.specs.FinMap as finite
use Rattle.grok.specs.Maps.{Texts, set_all}
use Rattle.grok.specs.DefaultDefinitions.{default_definitions}

-- The default definitions, and then those of the words, one after another. The last definition of a name
-- counts.
abbrev pub library_of : List (List ℕ × List ℕ) → Texts
library_of definitions = set_all (set_all finite.empty default_definitions) definitions
