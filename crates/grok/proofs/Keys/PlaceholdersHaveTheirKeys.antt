-- Keys with numbers have these keys, and these numbers.
use Rattle.std.proofs.Common.{◌≡◌, ℕ, List, map, ap, ◌∙◌}
use Rattle.std.proofs.lemmas.Simd.{map-map}
use Rattle.grok.specs.KeyNumbers.{key_text, key_number, key_and_number}
use Rattle.grok.specs.declared.expand.placeholder_key.PlaceholderKey.{PlaceholderKey}

pub have_keys : (placeholders : List (List ℕ × ℕ)) (keys : List PlaceholderKey) → placeholders ≡ map key_and_number keys
    → map (λ placeholder. placeholder.0) placeholders ≡ map key_text keys
have_keys placeholders keys are = ap (map (λ placeholder. placeholder.0)) are ∙ map-map (λ placeholder. placeholder.0) key_and_number keys

pub have_numbers : (placeholders : List (List ℕ × ℕ)) (keys : List PlaceholderKey) → placeholders ≡ map key_and_number keys
    → map (λ placeholder. placeholder.1) placeholders ≡ map key_number keys
have_numbers placeholders keys are = ap (map (λ placeholder. placeholder.1)) are ∙ map-map (λ placeholder. placeholder.1) key_and_number keys
