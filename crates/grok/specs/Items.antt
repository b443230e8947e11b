-- What contracts see of the items of a text.
use Rattle.std.specs.Prelude.{ℕ, List, ◌∷◌, Option, Some, None}
use Rattle.std.specs.Option.{option_map}
use Rattle.std.specs.Ordering.{nat_cmp}
use Rattle.std.specs.Cmp.Lexicographic.{slice_cmp}
use Rattle.std.specs.BTreeMap.{BTreeMap, get_by}
use Rattle.std.specs.Borrow.{Bor}
use Rattle.grok.specs.Tree as tree
use Rattle.grok.specs.declared.errors.fault.Fault.{Fault}
use Rattle.grok.specs.declared.errors.fault.Fault.TheVariants as fault
use Rattle.grok.specs.declared.defs.items.Label.{Label}
use Rattle.grok.specs.declared.defs.items.Meaning.{Meaning}
use Rattle.grok.specs.declared.defs.items.Meaning.TheVariants as meaning
use Rattle.grok.specs.declared.defs.items.Item.{Item}
use Rattle.grok.specs.declared.defs.items.Item.TheVariants as item

-- what contracts see of a structural fault
abbrev pub fault_view : Fault → tree.Fault
fault_view (fault.Malformed f) = tree.MalformedPiece f
fault_view (fault.Missing name) = tree.Missing name.now
fault_view fault.TooDeep = tree.TooDeep

-- what contracts see of the name, alias and extract of a placeholder
abbrev pub label_view : Label → tree.Label
label_view label = record { name = label.name.now; alias = label.alias.now; extract = label.extract.now }

-- what contracts see of the definition that a placeholder stands for
abbrev pub meaning_view : Meaning → tree.Meaning
meaning_view (meaning.Inline text) = tree.Inline text.now
meaning_view (meaning.Stored stored) = tree.Stored stored.now

-- what contracts see of one item
abbrev pub item_view : Item → tree.Item
item_view (item.Text text) = tree.TextItem text.now
item_view (item.Fault f) = tree.FaultItem (fault_view f)
item_view (item.Placeholder label m) = tree.PlaceholderItem (label_view label) (meaning_view m)

-- the items `items`, and in front of them the item `known` if there is one
abbrev pub known_first : Option Item → List tree.Item → List tree.Item
known_first None items = items
known_first (Some known) items = item_view known ∷ items

-- the inline definitions that a map from names to texts has, as a function from names
abbrev pub written_in : BTreeMap (Bor (List ℕ)) (Bor (List ℕ)) → tree.Definitions
written_in written name = option_map (λ (text : Bor (List ℕ)). text.now)
    (get_by (λ (key : Bor (List ℕ)). slice_cmp nat_cmp name key.now) written)
