use Rattle.std.proofs.Common.{◌≡◌, [], ◌∷◌, ◌++◌, option_map, sym, zero-add, arith, rules}
use Rattle.std.specs.Option.{ForSome}
use Rattle.std.proofs.lemmas.List.{map-append}
use Rattle.std.proofs.lemmas.List.Elements.{All-push}
use Rattle.std.proofs.lemmas.List.FromFn.{map-range_with_len_more}
use Rattle.grok.specs.Locations.{IsLocationIn, located_text, located_texts}
use Rattle.grok.specs.RegexFinds.{text_at}
use Rattle.regex.specs.Strings.{captures_haystack, captures_span}
use Rattle.grok.proofs.engine.regex_engine.write_locations.Goals as goal

pub groups-preserved : goal.groups-preserved
groups-preserved c =
    let line = captures_haystack c.args.found.now in
    let old = c.groups.locations.items in
    let new : located_texts line c.push.new.self.items ≡ located_texts line old ++ option_map (located_text line) c.group_location.result ∷ [] =
    rw c.in_ok-push.ensures.items (map-append (option_map (located_text line)) old (c.group_location.result ∷ [])) in (
      search rules,
      rw (new, c.groups.invariant.1, c.group_location.ensures.span)
          (sym (map-range_with_len_more (text_at line (captures_span c.args.found.now)) 0 c.groups.number c.groups.number (zero-add _))),
      rw c.in_ok-push.ensures.items (All-push (λ location. ForSome location (IsLocationIn line)) _ _ c.groups.invariant.2 c.group_location.ensures.inside),
    )

-- the length first, so that a wrong body is refused at once
pub groups-init : goal.groups-init
groups-init c = (omega arith, search rules, search rules)
