use Rattle.std.proofs.Common.{◌≡◌, [], ◌∷◌, ◌++◌, option_map, sym, zero-add, rules}
use Rattle.std.specs.Option.{ForSome}
use Rattle.std.proofs.lemmas.List.{map-append}
use Rattle.std.proofs.lemmas.List.Elements.{All-push}
use Rattle.std.proofs.lemmas.List.FromFn.{map-range_with_len_more}
use Rattle.grok.specs.Locations.{IsLocationIn, located_text, located_texts}
use Rattle.grok_engines.specs.Wholes.{line_at}
use Rattle.grok_engines.proofs.heads.write_locations.Goals as goal

pub all_groups-preserved : goal.all_groups-preserved
all_groups-preserved c =
    let line = c.args.line.now in
    let old = c.all_groups.locations.items in
    let new : located_texts line c.push.new.self.items ≡ located_texts line old ++ option_map (located_text line) c.location_at.result ∷ [] =
    rw c.in_ok-push.ensures.items (map-append (option_map (located_text line)) old (c.location_at.result ∷ [])) in (
      rw (new, c.all_groups.invariant.0, c.location_at.ensures.text)
          (sym (map-range_with_len_more (line_at line) 0 c.all_groups.group c.all_groups.group (zero-add _))),
      rw c.in_ok-push.ensures.items (All-push (λ location. ForSome location (IsLocationIn line)) _ _ c.all_groups.invariant.1 c.location_at.ensures.inside),
      search rules,
    )
