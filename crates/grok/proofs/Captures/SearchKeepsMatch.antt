-- A search that has found a match keeps it, and the texts of its groups are the match in the line.
use Rattle.std.proofs.Common.{◌≡◌, ℕ, List, Option, Some, None, Bool, true, false, IsTrue, Result, Ok, Err, IfOk, if◌then◌else◌, length, ap, ◌∙◌}
use Rattle.std.proofs.lemmas.List.{length-map}
use Rattle.grok.specs.Captures.{IsMatchIn}
use Rattle.grok.specs.Locations.{AreLocationsIn, located_texts}
use Rattle.grok.specs.LineSearches.{LineSearchValue, HasMatchIn}
use Rattle.grok.proofs.Captures.GroupsLieInLine.{slices_located}

pub match_kept : {E X : Type 0} (line : List ℕ) (found finds : List ℕ → Option (List (Option (List ℕ)))) (groups count : ℕ) (kept : LineSearchValue E)
    (result : Result Bool X) → found ≡ finds → groups ≡ count
    → IfOk result (λ is_match. (if is_match then Some (located_texts line kept.ranges) else None) ≡ found line)
    → IfOk result (λ is_match. IsTrue is_match → length kept.ranges ≡ groups)
    → IfOk result (λ is_match. IsTrue is_match → AreLocationsIn line kept.ranges)
    → IfOk result (λ is_match. IsTrue is_match → HasMatchIn line finds count kept)
match_kept line found finds groups count kept (Ok true) same number answer all inside = λ is. record {
  answer = answer ∙ ap (λ finds. finds line) same;
  all_groups = all is ∙ number;
  inside = inside is;
}
match_kept line found finds groups count kept (Ok false) same number answer all inside = λ is. cc
match_kept line found finds groups count kept (Err e) same number answer all inside = tt

pub match_is_kept : {E : Type 0} (line : List ℕ) (finds : List ℕ → Option (List (Option (List ℕ)))) (count : ℕ) (kept : LineSearchValue E)
    → HasMatchIn line finds count kept → IsMatchIn line finds count (Some (located_texts line kept.ranges))
match_is_kept line finds count kept has = record {
  answer = has.answer;
  all_groups = length-map kept.ranges _ ∙ has.all_groups;
  slices = slices_located line kept.ranges has.inside;
}
