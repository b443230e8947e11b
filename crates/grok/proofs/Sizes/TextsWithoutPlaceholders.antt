-- The size of a text without placeholders, such as an inline definition, is the number of its bytes.
use Rattle.std.proofs.Common.{◌≡◌, ℕ, zero, suc, ◌+◌, Bool, List, [], ◌∷◌, length, Result, Some, Ok, refl, ◌∙◌, ap, arith}
use Rattle.grok.specs.Tree.{Definitions, Fault, Inline, Stored, Item, TextItem, FaultItem, PlaceholderItem}
use Rattle.grok.specs.steps.Sizes.{Size, size_of_bytes, both, sizes, size_or_fault}
use Rattle.grok.specs.steps.MeasuredOnce.{inlined}
use Rattle.grok.proofs.Sizes.SizesAdd.{same_size}

abbrev pub AreBytes : List Item → Type 0
AreBytes [] = Unit {0}
AreBytes (TextItem text ∷ items) = AreBytes items
AreBytes (FaultItem fault ∷ items) = ⊥
AreBytes (PlaceholderItem label meaning ∷ items) = ⊥

abbrev pub bytes_in : List Item → ℕ
bytes_in [] = 0
bytes_in (TextItem text ∷ items) = length text + bytes_in items
bytes_in (FaultItem fault ∷ items) = bytes_in items
bytes_in (PlaceholderItem label meaning ∷ items) = bytes_in items

-- the items of the text are bytes that add up to it
pub record IsFlat (resolve : List ℕ → List Item) (text : List ℕ) : Type 0 where
  pub bytes : AreBytes (resolve text)
  pub adds_up : bytes_in (resolve text) ≡ length text

-- what is true of each item: a stored definition is that of its name, and an inline definition has no
-- placeholder
abbrev pub AreSound : (List ℕ → List Item) → Definitions → List Item → Type 0
AreSound resolve definitions [] = Unit {0}
AreSound resolve definitions (TextItem text ∷ items) = AreSound resolve definitions items
AreSound resolve definitions (FaultItem fault ∷ items) = AreSound resolve definitions items
AreSound resolve definitions (PlaceholderItem label (Inline text) ∷ items) = IsFlat resolve text × AreSound resolve definitions items
AreSound resolve definitions (PlaceholderItem label (Stored text) ∷ items) = (definitions label.name ≡ Some text) × AreSound resolve definitions items

-- the items after a sound one are sound
pub sound_rest : (resolve : List ℕ → List Item) (definitions : Definitions) (item : Item) (items : List Item) → AreSound resolve definitions (item ∷ items) → AreSound resolve definitions items
sound_rest resolve definitions (TextItem text) items h = h
sound_rest resolve definitions (FaultItem fault) items h = h
sound_rest resolve definitions (PlaceholderItem label (Inline text)) items h = h.1
sound_rest resolve definitions (PlaceholderItem label (Stored text)) items h = h.1

pub record IsSound (resolve : List ℕ → List Item) (definitions : Definitions) : Type 0 where
  pub sound : (text : List ℕ) → AreSound resolve definitions (resolve text)

flat_sizes : (alias_only : Bool) (inner : List ℕ → Result Size Fault) (items : List Item) → AreBytes items → sizes alias_only inner items ≡ Ok (record { bytes = bytes_in items; groups = 0; height = 0 })
flat_sizes alias_only inner [] bytes = refl
flat_sizes alias_only inner (TextItem text ∷ items) bytes =
    ap (both (Ok (size_of_bytes text))) (flat_sizes alias_only inner items bytes) ∙ ap Ok (same_size _ _ refl (omega arith) (omega arith))
flat_sizes alias_only inner (FaultItem fault ∷ items) bytes = absurd bytes
flat_sizes alias_only inner (PlaceholderItem label meaning ∷ items) bytes = absurd bytes

-- its size is its length
pub flat_measured : (alias_only : Bool) (resolve : List ℕ → List Item) (text : List ℕ) → IsFlat resolve text → (levels : ℕ) → size_or_fault alias_only resolve levels text ≡ inlined levels text
flat_measured alias_only resolve text flat zero = refl
flat_measured alias_only resolve text flat (suc levels) =
    flat_sizes alias_only (size_or_fault alias_only resolve levels) (resolve text) flat.bytes ∙ ap (λ n. Ok (record { bytes = n; groups = 0; height = 0 })) flat.adds_up
