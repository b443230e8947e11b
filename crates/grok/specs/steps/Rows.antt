-- What rows stand for: the base keys that are used before the first structural fault, in reading order.
use Rattle.std.specs.Prelude.{◌≡◌, ℕ, ◌<◌, Some, List, [], ◌∷◌, ◌++◌, length, get_or, slice_get, count_by, Vec}
use Rattle.std.specs.Str.{bytes_eq}
use Rattle.std.specs.Global.{Global}
use Rattle.grok.specs.declared.expand.rows.Row.{Row}
use Rattle.grok.specs.declared.expand.rows.Row.TheVariants.{Use, Part}

-- how often a base key (the key before its number is added) is used among these
abbrev pub uses_in : List (List ℕ) → List ℕ → ℕ
uses_in keys key = count_by (λ other. bytes_eq other key) keys

-- the base keys of the part with this index, if `done` has those of each part
abbrev pub part_keys : List (List (List ℕ)) → ℕ → List (List ℕ)
part_keys done index = get_or done index []

-- the base keys that rows stand for, if `done` has those of each part
abbrev pub flat : List (List (List ℕ)) → List Row → List (List ℕ)
flat done [] = []
flat done (Use key ∷ rows) = key.now ∷ flat done rows
flat done (Part index ∷ rows) = part_keys done index ++ flat done rows

-- the parts that the rows name have an index below `bound`
abbrev pub AreBelow : ℕ → List Row → Type 0
AreBelow bound [] = Unit {0}
AreBelow bound (Use key ∷ rows) = AreBelow bound rows
AreBelow bound (Part index ∷ rows) = (index < bound) × AreBelow bound rows

-- the rows of each part name only parts before it
abbrev pub NameEarlierParts : List (Vec Row Global) → Type 0
NameEarlierParts parts = (index : ℕ) (rows : Vec Row Global) → slice_get parts index ≡ Some rows → AreBelow index rows.items

-- `done` has the base keys of each part, and the rows of a part name only parts before it
pub record AreKeysOfParts (parts : List (Vec Row Global)) (done : List (List (List ℕ))) : Type 0 where
  pub same : length parts ≡ length done
  pub each : (index : ℕ) (rows : Vec Row Global) → slice_get parts index ≡ Some rows
      → part_keys done index ≡ flat done rows.items
  pub falls : NameEarlierParts parts
