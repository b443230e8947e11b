-- A group that took part has a byte range of the line, and its text is that part of the line.
use Rattle.std.proofs.Common.{◌≡◌, ℕ, zero, suc, List, [], ◌∷◌, Option, Some, None, IfSome, refl, slice_index_or, option_map}
use Rattle.std.specs.List.{All}
use Rattle.std.specs.Option.{ForSome}
use Rattle.std.proofs.lemmas.List.Elements.{All-head, All-tail, All-map, All-weaker}
use Rattle.std.proofs.lemmas.Option.{none-some}
use Rattle.grok.specs.Captures.{IsSliceOf, AreSlicesOf}
use Rattle.grok.specs.Locations.{IsLocationIn, AreLocationsIn, located_text, located_texts}

at_or : {X : Type 0} (P : X → Type 0) (xs : List X) (k : ℕ) (d : X) → All P xs → P d → P (slice_index_or xs k d)
at_or P [] k d all last = last
at_or P (x ∷ xs) zero d all last = All-head P x xs all
at_or P (x ∷ xs) (suc k) d all last = at_or P xs k d (All-tail P x xs all) last

if_some : {X : Type 0} (P : X → Type 0) (o : Option X) → ForSome o P → IfSome o P
if_some P None h = tt
if_some P (Some x) h = h x refl

pub location_in : (line : List ℕ) (locations : List (Option (ℕ × ℕ))) (group : ℕ) → AreLocationsIn line locations →
    IfSome (slice_index_or locations group None) (IsLocationIn line)
location_in line locations group are =
    if_some (IsLocationIn line) _ (at_or (λ location. ForSome location (IsLocationIn line)) locations group None are (λ x e. absurd (none-some x e)))

pub text_located : (line : List ℕ) (locations : List (Option (ℕ × ℕ))) (group : ℕ) →
    option_map (located_text line) (slice_index_or locations group None) ≡ slice_index_or (located_texts line locations) group None
text_located line [] group = refl
text_located line (x ∷ xs) zero = refl
text_located line (x ∷ xs) (suc k) = text_located line xs k

slice_of : (line : List ℕ) (location : Option (ℕ × ℕ)) → ForSome location (IsLocationIn line) →
    IfSome (option_map (located_text line) location) (IsSliceOf line)
slice_of line None h = tt
slice_of line (Some p) h = let is = h p refl in (p.0, p.1, is.ordered, is.ends.0, refl)

pub slices_located : (line : List ℕ) (locations : List (Option (ℕ × ℕ))) → AreLocationsIn line locations → AreSlicesOf line (located_texts line locations)
slices_located line locations are =
    All-map (λ text. IfSome text (IsSliceOf line)) (option_map (located_text line)) locations
    (All-weaker (λ location. ForSome location (IsLocationIn line)) _ (slice_of line) locations are)
