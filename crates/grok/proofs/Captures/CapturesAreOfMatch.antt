-- The captures that a search returns are those of its match.
use Rattle.std.proofs.Common.{◌≡◌, ℕ, zero, suc, List, Option, Some, None, Vec, vec_len, option_map, length, refl, sym, ap, ap₂, ◌∙◌, arith}
use Rattle.std.specs.Borrow.{Bor}
use Rattle.std.proofs.lemmas.List.{length-map}
use mathlib.Core.Path.{fun_ext}
use Rattle.regex.specs.Patterns.{Re, Match, find_str}
use Rattle.regex.specs.Search.{group_span}
use Rattle.regex.specs.Strings.{IsCapturesOf, captures_span, captures_haystack, captures_names}
use Rattle.regex.specs.declared.string.captures.Captures.{Captures}
use Rattle.grok.specs.Captures.{text_of, capture_texts, found_texts, AreSlicesOf, IsMatchIn}
use Rattle.grok.specs.RegexFinds.{texts_at, span_of_group, captures_in}

same_span : (line : List ℕ) (m : Match) (found : Captures) → IsCapturesOf line m found → (n : ℕ) →
    captures_span found n ≡ span_of_group m n
unfolding group_span
same_span line m found is zero = ap Some is.1.whole_is
same_span line m found is (suc n) = is.2 (suc n) (omega arith)

pub captured : (pattern : Re) (names : List (Option (List ℕ))) (line : List ℕ) (found : Captures) (m : Match)
    (texts : List (Option (List ℕ))) → find_str pattern line 0 ≡ Some m → IsCapturesOf line m found → captures_names found ≡ names →
    texts ≡ texts_at (captures_haystack found) (captures_span found) (length (captures_names found)) →
    Some texts ≡ captures_in pattern (length names) line
captured pattern names line found m texts at is same e =
    rw (at, e, same) (ap₂ (λ whole spans. Some (texts_at whole spans (length names))) is.0 (fun_ext (same_span line m found is)))

pub uncaptured : (pattern : Re) (count : ℕ) (line : List ℕ) → find_str pattern line 0 ≡ None → None ≡ captures_in pattern count line
uncaptured pattern count line e = rw e refl

-- a match whose texts are returned in a list
pub listed : {A : Type 0} {line : List ℕ} {finds : List ℕ → Option (List (Option (List ℕ)))} {count : ℕ} (captures : Vec (Option (Bor (List ℕ))) A)
    → Some (capture_texts captures.items) ≡ finds line → vec_len captures ≡ count → AreSlicesOf line (capture_texts captures.items)
    → IsMatchIn line finds count (found_texts (Some captures))
listed captures answer all_groups slices =
    record { answer = answer; all_groups = length-map captures.items (option_map text_of) ∙ (sym captures.ok.0 ∙ all_groups); slices = slices }
