-- The keys of the placeholders of a pattern, as `Grok::keys` returns them.
use Rattle.std.specs.Prelude.{◌≡◌, ◌≢◌, List, [], map}
use Rattle.grok.specs.Keys.{keys, capturing}
use Rattle.grok.specs.Compiled.{Expansion, CanBuild}
use Rattle.grok.specs.KeyNumbers.{key_text, key_number, numbers}
use Rattle.grok.specs.declared.expand.placeholder_key.PlaceholderKey.{PlaceholderKey}

-- The pattern isn't empty and has no fault, and `found` has the key and the number of each placeholder that captures,
-- in reading order.
pub record AreKeysOf (e : Expansion) (found : List PlaceholderKey) : Type 0 where
  pub some : e.pattern ≢ []
  pub can : CanBuild e
  pub keys : map key_text found ≡ keys (capturing e.alias_only e.tree)
  pub numbers : map key_number found ≡ numbers (capturing e.alias_only e.tree)
