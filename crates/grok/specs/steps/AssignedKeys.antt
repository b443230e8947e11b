-- What the key assigner has assigned so far, and to all placeholders of a tree.
use Rattle.std.specs.Prelude.{◌≡◌, ℕ, List, map, Bool, unwrap_or}
use Rattle.std.specs.Option.{option_map}
use Rattle.std.specs.String.{string_bytes}
use Rattle.std.specs.BTreeMap.{get_by_text}
use Rattle.grok.specs.Tree.{Label, Event}
use Rattle.grok.specs.Keys as keys
use Rattle.grok.specs.Keys.{how_often, capturing, extract_of}
use Rattle.grok.specs.KeyNumbers.{key_text, key_number, numbers}
use Rattle.grok.specs.steps.CapturedSoFar.{in_order, numbers_in_order, extract_before}
use Rattle.grok.specs.declared.expand.key_assigner.KeyAssigner.{KeyAssigner}

-- ---- what was assigned

-- The assigner has assigned keys to the capturing placeholders in `before`, a list that begins with the latest one. It
-- has counted how often they use each base key, and has their keys and extracts.
pub record HasAssigned (assigner : KeyAssigner) (before : List Label) : Type 0 where
  pub uses : (key : List ℕ) → unwrap_or (get_by_text assigner.uses key) 0
      ≡ how_often before key
  pub keys : map key_text assigner.keys.items ≡ in_order before
  pub numbers : map key_number assigner.keys.items ≡ numbers_in_order before
  pub extracts : (key : List ℕ) → option_map string_bytes (get_by_text assigner.extracts key)
      ≡ extract_before before key

-- The assigner has assigned keys to some capturing placeholders.
pub record CanAssign (assigner : KeyAssigner) : Type 0 where
  pub before : List Label
  pub shows : HasAssigned assigner before

-- ---- a whole tree

-- the assigner has the keys of the tree's capturing placeholders in reading order, and their extracts
pub record HasKeys (alias_only : Bool) (tree : List Event) (assigner : KeyAssigner) : Type 0 where
  pub keys : map key_text assigner.keys.items ≡ keys.keys (capturing alias_only tree)
  pub numbers : map key_number assigner.keys.items ≡ numbers (capturing alias_only tree)
  pub extracts : (key : List ℕ) → option_map string_bytes (get_by_text assigner.extracts key)
      ≡ extract_of alias_only tree key
