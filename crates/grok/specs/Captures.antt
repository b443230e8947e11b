-- The group names and captures of an engine, as texts.
use Rattle.std.specs.Prelude.{ℕ, List, Option, String, Vec, map, option_map, string_bytes}
use Rattle.std.specs.Borrow.{Bor}
use Rattle.regex_shared.specs.Texts.{capture_texts}
-- the texts of groups are those that the shared search writes
pub use Rattle.regex_shared.specs.Texts.{text_of, capture_texts, texts_if, IsSliceOf, AreSlicesOf, IsMatchIn}

-- the name of each group, from group 0 on
abbrev pub name_texts : {A : Type 0} → List (Option (String A)) → List (Option (List ℕ))
name_texts names = map (option_map string_bytes) names

-- the text of each group of a match that is returned as a list, if there is a match
abbrev pub found_texts : {A : Type 0} → Option (Vec (Option (Bor (List ℕ))) A) → Option (List (Option (List ℕ)))
found_texts found = option_map (λ captures. capture_texts captures.items) found
