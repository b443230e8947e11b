use Rattle.std.proofs.Common.{◌≡◌, vec_len, map}
use Rattle.std.specs.List.{range_with_len}
use Rattle.grok.specs.Locations.{AreLocationsIn, located_texts}
use Rattle.grok_engines.specs.Wholes.{line_at}
use Rattle.grok_engines.proofs.heads.write_locations.Given as goal

abbrev pub invariant-all_groups : goal.invariant-all_groups
invariant-all_groups l =
    (located_texts l.line l.locations.items ≡ map (line_at l.line) (range_with_len 0 l.group)) × AreLocationsIn l.line l.locations.items
    × (vec_len l.locations ≡ l.group)
