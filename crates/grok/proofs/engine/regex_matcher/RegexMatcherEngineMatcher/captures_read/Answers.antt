use Rattle.std.proofs.Common.{Some, IsTrue, length, true, sym, ap, subst, ◌∙◌}
use Rattle.grok.specs.Locations.{AreLocationsIn, located_texts}
use Rattle.grok.proofs.Captures.CapturesAreOfMatch.{captured}
use Rattle.grok.proofs.engine.regex_matcher.RegexMatcherEngineMatcher.captures_read.Goals as goal

pub returns-in_ok-write_locations-in-Some-clause-answer : goal.returns-in_ok-write_locations-in-Some-clause-answer
returns-in_ok-write_locations-in-Some-clause-answer c =
    let found = c.in-Some.ensures.found in
    ap (λ line. Some (located_texts line c.write_locations.new.locations.items)) (sym found.2.0)
    ∙ captured _ _ _ c.in-Some.found found.0 _ found.1 found.2 c.in-Some.ensures.names c.in_ok-write_locations-in-Some.ensures.texts

pub returns-in_ok-write_locations-in-Some-clause-inside : goal.returns-in_ok-write_locations-in-Some-clause-inside
returns-in_ok-write_locations-in-Some-clause-inside c =
    subst (λ line. IsTrue true → AreLocationsIn line c.write_locations.new.locations.items) c.in-Some.ensures.found.2.0
    (λ _. c.in_ok-write_locations-in-Some.ensures.inside)

pub returns-in_ok-write_locations-in-Some-clause-all_groups : goal.returns-in_ok-write_locations-in-Some-clause-all_groups
returns-in_ok-write_locations-in-Some-clause-all_groups c _ =
    c.in_ok-write_locations-in-Some.ensures.count ∙ ap length c.in-Some.ensures.names
