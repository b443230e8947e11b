-- What Debug shows. How it shows a text that isn't ASCII isn't specified, and neither is an output with such a
-- text.
use Rattle.std.specs.Prelude.{ℕ, List, [], Option, Some, String, codes, string_bytes}
use Rattle.std.specs.Fmt.{debug_str, debug_items, ◌++?◌}
use Rattle.std.specs.FinMap as finite
use Rattle.grok.specs.Maps.{Texts}

-- a key with the text of its value: `"a": "b"`
abbrev pub debug_entry : List ℕ → Option (List ℕ) → Option (List ℕ)
debug_entry key value = debug_str key ++? Some (codes ": ") ++? value

-- entries between braces, in their order: `{"a": "b", "c": "d"}`
abbrev pub debug_braces : {X : Type 0} → (X → Option (List ℕ)) → List X → Option (List ℕ)
debug_braces text entries = Some (codes "{") ++? debug_items text [] entries ++? Some (codes "}")

-- a pair of texts: `"a": "b"`
abbrev pub debug_pair : List ℕ × List ℕ → Option (List ℕ)
debug_pair pair = debug_entry pair.0 (debug_str pair.1)

-- pairs of texts in braces, in their order: `{"a": "b", "c": "d"}`
abbrev pub debug_pairs : List (List ℕ × List ℕ) → Option (List ℕ)
debug_pairs pairs = debug_braces debug_pair pairs

-- a map from texts to texts, in the byte order of its keys
abbrev pub debug_texts : Texts → Option (List ℕ)
debug_texts texts = debug_pairs (finite.entries texts)

-- an entry of a map from texts to values, where `text` is what Debug shows of a value
abbrev pub debug_item : {A V : Type 0} → (V → Option (List ℕ)) → String A × V → Option (List ℕ)
debug_item text entry = debug_entry (string_bytes entry.0) (text entry.1)
