-- What comes before and after the first point of a text.
use Rattle.std.proofs.Common.{◌≡◌, ℕ, ◌<◌, ◌==◌, List, Option, Some, None, option_map, length, refl, lit<}
use Rattle.std.proofs.lemmas.Str.Pattern.{IsSplitOnceResult, split_once_first}
use Rattle.std.specs.List.{position_or_len, before_first, after_first}
use denote.Ref.{Bor}
use Rattle.groklog_answers.specs.Values.{parts_at_point}
use Rattle.groklog_answers.proofs.PlansAreMade.{none_at_end, some_before_end}

no_point : (text : List ℕ) → position_or_len (λ b. b == 46) text ≡ length text → None ≡ parts_at_point text
no_point text none = rw (none_at_end (λ b. b == 46) text none) refl

one_point : (text whole fraction : List ℕ) → position_or_len (λ b. b == 46) text < length text
    → whole ≡ before_first (λ b. b == 46) text → fraction ≡ after_first (λ b. b == 46) text
    → Some (whole, fraction) ≡ parts_at_point text
one_point text whole fraction some whole_is fraction_is =
    rw (some_before_end (λ b. b == 46) text some, whole_is, fraction_is) refl

pub parts_are_found : (text : List ℕ) (parts : Option (Bor (List ℕ) × Bor (List ℕ))) → IsSplitOnceResult 46 text parts
    → option_map (λ parts. (parts.0.now, parts.1.now)) parts ≡ parts_at_point text
parts_are_found text None found = no_point text (split_once_first 46 text None found (lit< tt))
parts_are_found text (Some parts) found =
    let first = split_once_first 46 text (Some parts) found (lit< tt) in
    one_point text parts.0.now parts.1.now first.0 first.1 first.2
