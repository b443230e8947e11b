use Rattle.std.proofs.Common.{◌≡◌, vec_len}
use Rattle.grok.specs.Locations.{AreLocationsIn, located_texts}
use Rattle.grok.specs.RegexFinds.{texts_at}
use Rattle.regex.specs.Strings.{captures_haystack, captures_span}
use Rattle.grok.proofs.engine.regex_engine.write_locations.Given as goal

abbrev pub invariant-groups : goal.invariant-groups
invariant-groups l =
    (vec_len l.locations ≡ l.number)
    × (located_texts (captures_haystack l.found) l.locations.items ≡ texts_at (captures_haystack l.found) (captures_span l.found) l.number)
    × AreLocationsIn (captures_haystack l.found) l.locations.items
